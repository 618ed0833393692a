use Rattle.std.proofs.Common.{◌≡◌, ◌++◌, All}
use Rattle.stn_net.specs.Difference.{NamesEvents}
use Rattle.stn_lift.specs.PlanSource.{events_of}
use Rattle.stn_site.specs.Bounds.{live_bounds}
use Rattle.stn_chart.specs.Chart.{floors_at}
use Rattle.stn_chart.proofs.floors.live_and_floors.Given as goal

abbrev pub invariant-loop-before : goal.invariant-loop-before
invariant-loop-before g l =
    (l.bounds.items ≡ live_bounds l.plan.state ++ floors_at l.plan.state l.before l.now) × All (NamesEvents (events_of l.plan.source)) l.bounds.items
