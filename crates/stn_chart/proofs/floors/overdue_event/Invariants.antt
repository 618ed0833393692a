use Rattle.std.{proofs.Common.{◌≡◌, ◌+◌, ◌-◌}, specs.{Prelude.find, List.range_with_len}}
use Rattle.stn_lift.specs.PlanSource.{events_of}
use Rattle.stn_chart.specs.Chart.{is_overdue}
use Rattle.stn_chart.proofs.floors.overdue_event.Given as goal

abbrev pub invariant-loop-before : goal.invariant-loop-before
invariant-loop-before g l =
    find (is_overdue l.plan.state l.windows l.now) (range_with_len 1 (events_of l.plan.source))
    ≡ find (is_overdue l.plan.state l.windows l.now) (range_with_len (l.before + 1) (events_of l.plan.source - l.before))
