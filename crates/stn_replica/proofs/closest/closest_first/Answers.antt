use Rattle.std.{proofs.{Common.{rules, sym, subst, ◌∙◌, arith}, lemmas.List.{take_all, Sorted.IsPermutation-trans}}, specs.List.Sorted.IsPermutation}
use Rattle.stn_replica.{specs.Rows.in_turn, proofs.Rows.{in_rows_next, named_of}}
use Rattle.stn_replica.proofs.closest.closest_first.Goals as goal

pub planned-requires : goal.planned-requires
planned-requires g c =
    let named = named_of
    c.requires c.in_ok-spread.ensures c.deref-bound-items.ensures.value c.loop-bound-test.true c.bound-item.is in
    omega (arith, named.from, c.from.ensures.value)

pub planned-requires-in-loop-bound : goal.planned-requires-in-loop-bound
planned-requires-in-loop-bound g c =
    let named = named_of
    c.requires c.in_ok-spread.ensures c.deref-bound-items.ensures.value c.loop-bound-test.true c.bound-item.is in
    omega (arith, named.to, c.to.ensures.value)

pub loop-bound-preserved : goal.loop-bound-preserved
loop-bound-preserved g c = record {
  long = c.append_to.ensures.long ∙ c.loop-bound.invariant.long;
  so_far = in_rows_next c.deref-bound-items.result.now c.loop-bound.rows.items c.append_to.new.rows.items c.loop-bound-test.true
      c.bound-item.is c.loop-bound.invariant.so_far c.in_ok-append_to.ensures.more;
}

pub returns : goal.returns
returns g c =
    let items = c.deref-bound-items.result.now in
    let bounds = c.args.bounds.now in
    let rows = c.loop-bound.rows.items in
    let taken : IsPermutation items (in_turn rows) = subst (λ l. IsPermutation l (in_turn rows)) (take_all c.loop-bound.bound-index items c.loop-bound-test.false) c.loop-bound.invariant.so_far in
    let all : IsPermutation bounds (in_turn rows) = IsPermutation-trans bounds items (in_turn rows) (subst (IsPermutation bounds) (sym c.deref-bound-items.ensures.value) c.in_ok-spread.ensures) taken in
    search rules
