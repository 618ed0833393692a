use Rattle.std.{proofs.Common.{◌≡◌, map}, specs.List.range_with_len}
use Rattle.stn_chart.specs.Chart.{row_in}
use Rattle.stn_chart.proofs.tables.rows_in.Given as goal

abbrev pub invariant-loop-step : goal.invariant-loop-step
invariant-loop-step g l = l.rows.items ≡ map (row_in l.windows l.steps) (range_with_len 0 l.step)
