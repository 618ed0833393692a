use Rattle.std.{proofs.Common.{◌≡◌, true, ◌+◌, length}, specs.FinMap.is_sorted}
use Rattle.stn_records.specs.{Id.id_cmp, Sorted.without_ids}
use Rattle.stn_records.proofs.live_records.LiveRecordsIterator.next.Given as goal

abbrev pub invariant-loop-entry : goal.invariant-loop-entry
invariant-loop-entry l = record {
  same : l.fn.self ≡ without_ids l.self-inside.added.now l.self-inside.replaced.now;
  added : is_sorted id_cmp l.self-inside.added.now ≡ true;
  replaced : is_sorted id_cmp l.self-inside.replaced.now ≡ true;
}

abbrev pub decreases-loop-entry : goal.decreases-loop-entry
decreases-loop-entry l = length l.self-inside.added.now + length l.self-inside.replaced.now
