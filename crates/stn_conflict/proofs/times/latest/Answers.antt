use Rattle.std.proofs.{Common.◌++◌, lemmas.Result.IfOk-weaker}
use Rattle.stn_conflict.proofs.SoonestTimes.{found_latest}
use Rattle.stn_conflict.proofs.times.latest.Goals as goal

pub returns : goal.returns
returns g c =
    IfOk-weaker c.distances_from.result _ _ (λ found. found_latest (c.args.base.now ++ c.args.extra.now) c.args.events found) (rw c.origin.ensures at c.distances_from.ensures)
