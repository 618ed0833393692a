use Rattle.std.proofs.Common.{rules, ◌≡◌, ◌++◌}
use Rattle.stn_lift.specs.PlanSource.{events_of, base_bounds}
use Rattle.stn_conflict.specs.Distances.{AreDistancesFrom, AreDistancesTo}
use Rattle.stn_site.proofs.windows.windows_with.Goals as goal

pub returns-in_ok-windows_of-in-Some : goal.returns-in_ok-windows_of-in-Some
returns-in_ok-windows_of-in-Some g c =
    let all = base_bounds c.args.base.now ++ c.args.more.now in
    let events = events_of c.args.base.now in
    let bounds : c.bounds.result.now ++ c.args.more.now ≡ all = cc in
    let found = c.in-Some.found in
    let from : AreDistancesFrom all events 0 found.from.items = search rules in
    let to : AreDistancesTo all events 0 found.to.items = search rules in
    c.in_ok-windows_of-in-Some.ensures all events from to
