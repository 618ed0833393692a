use Rattle.std.{proofs.Common.{◌≡◌, true, ◌+◌}, specs.{Set.distinct_count, FinMap.is_sorted}}
use Rattle.stn_records.{specs.{Id.id_cmp, Content.same_ids}, proofs.Counts.all_keys}
use Rattle.stn_records.proofs.sorted.count_ids.Given as goal

abbrev pub invariant-loop-id : goal.invariant-loop-id
invariant-loop-id g l = record {
  counted : l.count + distinct_count same_ids (all_keys l.rest_a l.rest_b l.rest_c l.rest_d) ≡ distinct_count same_ids (all_keys l.fn.a l.fn.b l.fn.c l.fn.d);
  a : is_sorted id_cmp l.rest_a ≡ true;
  b : is_sorted id_cmp l.rest_b ≡ true;
  c : is_sorted id_cmp l.rest_c ≡ true;
  d : is_sorted id_cmp l.rest_d ≡ true;
}

abbrev pub decreases-loop-id : goal.decreases-loop-id
decreases-loop-id g l = distinct_count same_ids (all_keys l.rest_a l.rest_b l.rest_c l.rest_d)
