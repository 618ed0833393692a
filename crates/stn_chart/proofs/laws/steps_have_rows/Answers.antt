use Rattle.std.proofs.Common.{rules}
use Rattle.stn_chart.proofs.Order.{rows_apart, row_below}
use Rattle.stn_chart.proofs.laws.steps_have_rows.Goals as goal

pub returns : goal.returns
returns c = search (rules, rows_apart, row_below)
