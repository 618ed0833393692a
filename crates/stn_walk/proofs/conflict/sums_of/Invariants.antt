use Rattle.std.{proofs.Common.{◌≡◌, ◌++◌, ◌+◌, ◌*◌, ◌<◌, ◌≤◌, ◌^◌, map, All}, specs.{Prelude.unsigned_abs, List.range_with_len}}
use Rattle.stn_walk.specs.Walk.{sum_of}
use Rattle.stn_walk.proofs.conflict.sums_of.Given as goal

abbrev pub invariant-loop-place : goal.invariant-loop-place
invariant-loop-place g l =
    (l.sums.items ≡ map (sum_of (l.base ++ l.others) l.links) (range_with_len 0 (l.place + 1)))
    × (unsigned_abs (sum_of (l.base ++ l.others) l.links l.place) ≤ l.place * 34359738368)
    × All (λ sum. unsigned_abs sum < 2 ^ 45) l.sums.items
