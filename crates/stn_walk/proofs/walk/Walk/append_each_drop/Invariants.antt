use Rattle.std.{proofs.Common.{◌≡◌, ◌++◌}, specs.List.{flat_map, range_with_len}}
use Rattle.stn_walk.specs.{Walk.row_drop, Seen.seen_walk}
use Rattle.stn_walk.proofs.walk.Walk.append_each_drop.Given as goal

abbrev pub invariant-loop-row : goal.invariant-loop-row
invariant-loop-row g l = l.out.items ≡ l.initial.out.items ++ flat_map (row_drop (seen_walk l.self)) (range_with_len 0 l.row)
