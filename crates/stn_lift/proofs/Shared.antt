-- Numbers in two lists in order.
use Rattle.std.{proofs.{Common.{◌≡◌, ℕ, ◌+◌, ◌<◌, ◌≤◌, false, eqb, List, [], ◌∷◌, length, get_or, drop, refl, sym, arith, suc, length-drop, add-one}, Math.Seq.drop-cons, lemmas.{Bool.ne_eqb, List.{get_or-drop, Elements.{All-from_get_or, recursion_from_All}}}}, specs.List.{AllByRecursion, list_any, Sorted.IsNonDecreasing}}
use Rattle.stn_lift.specs.Footprints.{share}

-- a number below all others is not among them
absent_below : (a : ℕ) (xs : List ℕ) → AllByRecursion (λ x. a < x) xs → list_any (eqb a) xs ≡ false
absent_below a [] above = refl
absent_below a (x ∷ xs) above = rw (ne_eqb a x (omega (arith, above.0))) (absent_below a xs above.1)

-- such a number in the one list is not shared
share_past_first : (a : ℕ) (xs ys : List ℕ) → AllByRecursion (λ y. a < y) ys → share eqb (a ∷ xs) ys ≡ share eqb xs ys
share_past_first a xs ys above = rw (absent_below a ys above) refl

-- nor is it in the other
share_past_second : (b : ℕ) (xs ys : List ℕ) → AllByRecursion (λ x. b < x) xs → share eqb xs (b ∷ ys) ≡ share eqb xs ys
share_past_second b [] ys above = refl
share_past_second b (x ∷ xs) ys above = rw (ne_eqb x b (omega (arith, above.0)), share_past_second b xs ys above.1) refl

-- with an empty list nothing is shared
pub share_nothing : (xs : List ℕ) → share eqb xs [] ≡ false
share_nothing [] = refl
share_nothing (x ∷ xs) = share_nothing xs

-- in order, all from a place on are above what is below that place's number
above_from : {a : ℕ} (xs : List ℕ) {i : ℕ} → IsNonDecreasing xs → i < length xs → a < get_or xs i 0 → AllByRecursion (λ x. a < x) (drop i xs)
above_from {a} xs {i} sorted within above =
    recursion_from_All (λ x. a < x) (drop i xs) (All-from_get_or (λ x. a < x) (drop i xs) 0 (λ k there.
    let later : i + k < length xs = omega (arith, length-drop i xs) in
    let rises : get_or xs i 0 ≤ get_or xs (i + k) 0 = sorted i (i + k) 0 (omega arith) later in
    rw get_or-drop (omega arith)))

module _ (xs ys : List ℕ) (i j : ℕ) (here : i < length xs) (there : j < length ys) where
  -- the lesser number is passed
  pub share_after_less : IsNonDecreasing ys → get_or xs i 0 < get_or ys j 0 → share eqb (drop (i + 1) xs) (drop j ys) ≡ share eqb (drop i xs) (drop j ys)
  share_after_less sorted less =
      sym (rw (drop-cons xs i 0, add-one) (share_past_first (get_or xs i 0) (drop (suc i) xs) (drop j ys) (above_from ys sorted there less)))

  pub share_after_greater : IsNonDecreasing xs → get_or ys j 0 < get_or xs i 0 → share eqb (drop i xs) (drop (j + 1) ys) ≡ share eqb (drop i xs) (drop j ys)
  share_after_greater sorted less =
      sym (rw (drop-cons ys j 0, add-one) (share_past_second (get_or ys j 0) (drop i xs) (drop (suc j) ys) (above_from xs sorted here less)))
