use Rattle.std.{proofs.Common.{◌≡◌, ◌≤◌, length, filter}, specs.List.range_with_len}
use Rattle.stn_chart.specs.Chart.{is_above}
use Rattle.stn_chart.proofs.tables.row_in.Given as goal

abbrev pub invariant-loop-before : goal.invariant-loop-before
invariant-loop-before l = (l.row ≡ length (filter (is_above l.windows l.step) (range_with_len 1 l.before))) × (l.row ≤ l.before)
