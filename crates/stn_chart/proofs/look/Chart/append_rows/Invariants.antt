use Rattle.std.{proofs.Common.{◌≡◌, ◌++◌}, specs.List.{flat_map, range_with_len}}
use Rattle.stn_chart.specs.{Rows.row_text, Seen.seen_chart}
use Rattle.stn_chart.proofs.look.Chart.append_rows.Given as goal

abbrev pub invariant-loop-before : goal.invariant-loop-before
invariant-loop-before g l = l.out.items ≡ l.initial.out.items ++ flat_map (row_text (seen_chart l.self)) (range_with_len 1 l.before)
