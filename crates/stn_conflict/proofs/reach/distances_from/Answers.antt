use Rattle.std.proofs.Common.{◌++◌}
use Rattle.stn_conflict.{specs.Relaxation.HasFound, proofs.SoonestTimes.distances_of}
use Rattle.stn_conflict.proofs.reach.distances_from.Goals as goal

pub returns-in-Some : goal.returns-in-Some
returns-in-Some g c =
    let found : HasFound c.args.direction c.args.events (c.args.base.now ++ c.args.extra.now) c.args.event _ c.in-Some.field-0.search = rw c.in-Some.is at c.in_ok-search.ensures in
    distances_of c.in-Some.field-0.search (found.tables, found.far)
