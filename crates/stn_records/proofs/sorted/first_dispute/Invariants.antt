use Rattle.std.{proofs.Common.{◌≡◌, true, ◌+◌, length}, specs.FinMap.is_sorted}
use Rattle.stn_records.specs.{Id.id_cmp, Sorted.dispute_of}
use Rattle.stn_records.proofs.sorted.first_dispute.Given as goal

abbrev pub invariant-loop-our : goal.invariant-loop-our
invariant-loop-our g l = record {
  same : dispute_of g.X.MapValue.same l.left l.right ≡ dispute_of g.X.MapValue.same l.fn.ours l.fn.theirs;
  ours : is_sorted id_cmp l.left ≡ true;
  theirs : is_sorted id_cmp l.right ≡ true;
}

abbrev pub decreases-loop-our : goal.decreases-loop-our
decreases-loop-our g l = length l.left + length l.right
