use Rattle.std.{proofs.Common.{◌≡◌, true, ◌+◌, ◌∷◌, length}, specs.FinMap.is_sorted}
use Rattle.stn_records.specs.{Id.id_cmp, Sorted.without_ids}
use Rattle.stn_replica.specs.Walk.{from_next}
use Rattle.stn_replica.proofs.risen.RisenIterator.next.Given as goal

abbrev pub invariant-loop-self : goal.invariant-loop-self
invariant-loop-self l = record {
  same : l.fn.self ≡ without_ids (l.new ∷ l.self-inside.after) (from_next l.self-inside.next_before l.self-inside.before);
  after : is_sorted id_cmp (l.new ∷ l.self-inside.after) ≡ true;
  before : is_sorted id_cmp (from_next l.self-inside.next_before l.self-inside.before) ≡ true;
}

abbrev pub decreases-loop-self : goal.decreases-loop-self
decreases-loop-self l = length l.self-inside.after + length (from_next l.self-inside.next_before l.self-inside.before)
