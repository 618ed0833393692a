-- Numbers with one more, and texts that grow by the text of one element.
use Rattle.std.{proofs.{lemmas.{Grind.common_steps, List.{append-nil, take_more, Concat.flat_map-append}}, Common.{rules, ◌≡◌, ℕ, zero, suc, ◌+◌, List, [], ◌∷◌, ◌++◌, length, take, get_or, ◌<◌, ap, arith, append_assoc}}, specs.List.{flat_map, range_with_len}}

-- the numbers with one more
pub range_push : (a n next : ℕ) → a + n ≡ next → range_with_len a (suc n) ≡ range_with_len a n ++ next ∷ []
range_push a zero next e = search rules
range_push a (suc n) next e = let step : a + 1 + n ≡ next = omega (arith, e) in ap (λ rest. a ∷ rest) (range_push (a + 1) n next step)

-- the text of one number more
range_more : (f : ℕ → List ℕ) (a n : ℕ) {next : ℕ} → a + n ≡ next → flat_map f (range_with_len a (suc n)) ≡ flat_map f (range_with_len a n) ++ f next
range_more f a n {next} e = cc (range_push a n next e, flat_map-append f (range_with_len a n) (next ∷ []), append-nil (f next))

-- a text that has grown by it
pub range_grown : (f : ℕ → List ℕ) (a n next more : ℕ) (front old new : List ℕ) → a + n ≡ next → more ≡ suc n
    → old ≡ front ++ flat_map f (range_with_len a n) → new ≡ old ++ f next → new ≡ front ++ flat_map f (range_with_len a more)
range_grown f a n next more front old new e is was grown = search (rules, append_assoc, range_more)

-- a text that has grown by the text of one element more
pub lines_grown : {X : Type 0} (f : X → List ℕ) (xs : List X) (place : ℕ) (x : X) (front old new : List ℕ) → place < length xs → x ≡ get_or xs place x
    → old ≡ front ++ flat_map f (take place xs) → new ≡ old ++ f x → new ≡ front ++ flat_map f (take (place + 1) xs)
lines_grown f xs place x front old new within is was grown = grind (arith, common_steps, append_assoc, take_more, append-nil)
