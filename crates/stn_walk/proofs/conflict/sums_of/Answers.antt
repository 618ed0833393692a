use Rattle.std.{proofs.{Common.{◌≡◌, ◌+◌, ◌*◌, ◌++◌, ◌<◌, ◌≤◌, ◌^◌, ℤ, pos, w64, get_or, sym, subst, ap, ◌∙◌, arith}, lemmas.{Int.{to_z-of_z, ints}, List.{get_or_default, FromFn.get_or-map-range_with_len}}}, specs.Prelude.{◌+ℤ◌, unsigned_abs}}
use Rattle.stn_walk.{specs.Walk.sum_of, proofs.Sums.{values_grown, all_grown, sum_step, abs_add}}
use Rattle.stn_walk.proofs.conflict.sums_of.Goals as goal

pub loop-place-preserved : goal.loop-place-preserved
loop-place-preserved g c =
    let bounds = c.args.base.now ++ c.args.others.now in
    let links = c.args.links.now in
    let place = c.loop-place.place in
    let f = sum_of bounds links in
    let sum = c.sum_in.result in
    let weight = c.weight_of-weight.result in
    let next = c.added.result in
    let read : sum ≡ f place =
    c.sum_in.ensures.value ∙ ap (λ sums. get_or sums place (pos 0)) (c.deref.ensures.value ∙ c.loop-place.invariant.0) ∙ get_or-map-range_with_len f 0 (place + 1) place place (pos 0) (omega arith) (omega arith) in
    let total : next ≡ sum +ℤ weight =
    c.added.ensures ∙ (λ i. to_z-of_z w64 sum (record { sfits = c.sum_in.type_inv }) i +ℤ to_z-of_z w64 weight (record { sfits = c.weight_of-weight.type_inv }) i) in
    let step : next ≡ f (place + 1) = sum_step bounds links place _ sum weight next c.loop-place-test.true (get_or_default links place _ _ c.loop-place-test.true) read c.weight_of-weight.ensures.value total in
    let back = to_z-of_z w64 next (record { sfits = c.added.type_inv }) in
    let least : unsigned_abs next ≤ unsigned_abs sum + unsigned_abs weight = subst (λ (z : ℤ). unsigned_abs z ≤ unsigned_abs sum + unsigned_abs weight) (sym total) (abs_add sum weight) in
    let was : unsigned_abs sum ≤ place * 34359738368 = subst (λ (z : ℤ). unsigned_abs z ≤ place * 34359738368) (sym read) c.loop-place.invariant.1 in
    let most : unsigned_abs next ≤ (place + 1) * 34359738368 = omega (arith, least, was, c.weight_of-weight.ensures.small) in (
      values_grown f (place + 1) (place + 1 + 1) c.loop-place.sums.items c.push-in-loop-place.new.self.items c.in_ok-push-2.ensures.items c.loop-place.invariant.0 (omega (arith, ints, step, back)) (omega arith),
      subst (λ (z : ℤ). unsigned_abs z ≤ (place + 1) * 34359738368) step most,
      all_grown (λ sum. unsigned_abs sum < 2 ^ 45) c.loop-place.sums.items c.push-in-loop-place.new.self.items c.in_ok-push-2.ensures.items c.loop-place.invariant.2
          (omega (arith, ints, most, back, c.loop-place-test.true, c.requires.short)),
    )
