use Rattle.std.{proofs.{Common.{◌≡◌, ◌≤◌, ℤ, to_z, of_z, w64, get_or, subst, ap, ◌∙◌, arith}, lemmas.{Int.to_z-of_z, List.get_or_default}}, specs.Prelude.{unsigned_abs, pos}}
use Rattle.stn_walk.{specs.Walk.{early, late}, proofs.Sums.greatest_more}
use Rattle.stn_walk.proofs.conflict.reach_of.Goals as goal

pub loop-place-preserved : goal.loop-place-preserved
loop-place-preserved c =
    let sums = c.args.sums.now in
    let place = c.loop-place.place in
    let sum = c.sum_in-sum.result in
    let back : to_z w64 (of_z w64 sum) ≡ sum = to_z-of_z w64 sum (record { sfits = c.sum_in-sum.type_inv }) in
    let is : sum ≡ get_or sums place sum = c.sum_in-sum.ensures.value ∙ get_or_default sums place (pos 0) sum c.loop-place-test.true in
    let before : c.early.result ≡ early sum = c.early.ensures.value ∙ ap early back in
    let after : c.late.result ≡ late sum = c.late.ensures.value ∙ ap late back in
    let near : c.early.result ≤ unsigned_abs sum = subst (λ (z : ℤ). c.early.result ≤ unsigned_abs z) back c.early.ensures.small in
    let far : c.late.result ≤ unsigned_abs sum = subst (λ (z : ℤ). c.late.result ≤ unsigned_abs z) back c.late.ensures.small in (
      omega (arith, c.max-before.ensures, before, greatest_more early sums place c.loop-place.before sum c.loop-place-test.true is c.loop-place.invariant.0),
      omega (arith, c.max-after.ensures, after, greatest_more late sums place c.loop-place.after sum c.loop-place-test.true is c.loop-place.invariant.1),
      omega (arith, c.max-before.ensures, c.loop-place.invariant.2, near, c.sum_in-sum.ensures.small),
      omega (arith, c.max-after.ensures, c.loop-place.invariant.3, far, c.sum_in-sum.ensures.small),
    )
