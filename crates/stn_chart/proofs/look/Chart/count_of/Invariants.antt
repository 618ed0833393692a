use Rattle.std.{proofs.Common.{◌≡◌, ◌≤◌, length, filter}, specs.List.range_with_len}
use Rattle.stn_chart.specs.{Parts.shows, Seen.seen_chart}
use Rattle.stn_chart.proofs.look.Chart.count_of.Given as goal

abbrev pub invariant-loop-before : goal.invariant-loop-before
invariant-loop-before g l = (l.count ≡ length (filter (shows (seen_chart l.self) l.part) (range_with_len 1 l.before))) × (l.count ≤ l.before)
