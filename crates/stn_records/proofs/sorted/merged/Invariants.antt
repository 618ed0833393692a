use Rattle.std.proofs.Common.{◌≡◌, ◌+◌, ◌++◌, length}
use Rattle.stn_records.specs.{Id.id_cmp, Sorted.merge}
use Rattle.stn_records.proofs.sorted.merged.Given as goal

abbrev pub invariant-loop-our : goal.invariant-loop-our
invariant-loop-our g l = l.all.items ++ merge id_cmp l.left l.right ≡ merge id_cmp l.fn.ours l.fn.theirs

abbrev pub decreases-loop-our : goal.decreases-loop-our
decreases-loop-our g l = length l.left + length l.right
