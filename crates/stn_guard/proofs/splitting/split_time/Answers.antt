use Rattle.std.{proofs.{Common.{rules, ◌≡◌, ℤ, pos, neg_ℤ, ◌+ℤ◌, ◌≤ℤ◌, to_z, of_z, w64, ◌∙◌, arith}, lemmas.Int.{ints, clamps}}, specs.Int.{int_min, int_max, int_div_euclid}}
use Rattle.stn_time.specs.Time.{IsWithinHorizon}
use Rattle.stn_guard.proofs.splitting.split_time.Goals as goal

-- what 64 bits hold of a number
abbrev held : ℤ → ℤ
held z = to_z w64 (of_z w64 z)

-- the number lies within twice the horizon, on either side of zero
abbrev IsTwice : ℤ → Type 0
IsTwice z = (neg_ℤ (pos 63072000000) ≤ℤ z) × (z ≤ℤ pos 63072000000)

module _ (result one other by : ℤ) (a : IsWithinHorizon one) (b : IsWithinHorizon other) (c : IsWithinHorizon by) where
  later : result ≡ int_max (held one) (held (held other +ℤ held by)) → (result ≡ int_max one (other +ℤ by)) × IsTwice result
  later is = omega (arith, ints, clamps)

  earlier : result ≡ int_min (held one) (held (held other +ℤ held by)) → (result ≡ int_min one (other +ℤ by)) × IsTwice result
  earlier is = omega (arith, ints, clamps)

half : {result a b : ℤ} → IsTwice a → IsTwice b → result ≡ int_div_euclid (held (held a +ℤ held b)) (pos 2) → held result ≡ int_div_euclid (a +ℤ b) (pos 2)
half p q is = search rules

pub overflow_add-least : goal.overflow_add-least
overflow_add-least c =
    let least = later c.max-least.result c.get.result c.get-2.result c.get-weight.result c.get.ensures.within c.get-2.ensures.within c.get-weight.ensures.within c.max-least.ensures.value in
    let greatest = earlier c.min-greatest.result c.get-3.result c.get-4.result c.get-weight.result c.get-3.ensures.within c.get-4.ensures.within c.get-weight.ensures.within c.min-greatest.ensures.value in
    omega (arith, ints)

pub returns-clause-time : goal.returns-clause-time
returns-clause-time c =
    let least = later c.max-least.result c.get.result c.get-2.result c.get-weight.result c.get.ensures.within c.get-2.ensures.within c.get-weight.ensures.within c.max-least.ensures.value in
    let greatest = earlier c.min-greatest.result c.get-3.result c.get-4.result c.get-weight.result c.get-3.ensures.within c.get-4.ensures.within c.get-weight.ensures.within c.min-greatest.ensures.value in
    let weight = c.get-weight.ensures.value in
    half least.1 greatest.1 c.div_euclid.ensures
    ∙ (λ i. int_div_euclid (least.0 i +ℤ greatest.0 i) (pos 2))
    ∙ (λ i. int_div_euclid (int_max (c.get.ensures.value i) (c.get-2.ensures.value i +ℤ weight i) +ℤ int_min (c.get-3.ensures.value i) (c.get-4.ensures.value i +ℤ weight i)) (pos 2))
