use Rattle.std.proofs.Common.{rules}
use Rattle.stn_world.specs.{World.{opening_world, content_at}, Steps.run}
use Rattle.stn_laws.proofs.worlds.Runs.{sites_are_unions, same_unions}
use Rattle.stn_laws.proofs.worlds.sites_took_same_same_bytes.Goals as goal
use Rattle.stn_site.proofs.Counts.{alike_unions}

pub returns-clause-bytes : goal.returns-clause-bytes
returns-clause-bytes c = λ source sites others ours theirs site other there other_there same.
    let one = content_at (run (opening_world source sites) ours) site in
    let two = content_at (run (opening_world source others) theirs) other in
    let alike = (c.same_counts_same_bytes.ensures.items one two).0
    (alike_unions one two _ _ (sites_are_unions source sites ours site there) (sites_are_unions source others theirs other other_there) same) in
    (alike, c.same_counts_same_bytes.ensures.bytes source one two alike)

pub returns-clause-states : goal.returns-clause-states
returns-clause-states c = search (rules, same_unions, sites_are_unions)
