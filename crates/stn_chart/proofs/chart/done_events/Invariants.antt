use Rattle.std.{proofs.Common.{◌≡◌, map}, specs.List.range_with_len}
use Rattle.stn_site.specs.Report.{is_done}
use Rattle.stn_chart.proofs.chart.done_events.Given as goal

abbrev pub invariant-loop-event : goal.invariant-loop-event
invariant-loop-event g l = l.done.items ≡ map (is_done l.plan.state) (range_with_len 0 l.event)
