-- A text in two parts around its first dot.
use Rattle.std.{proofs.{Common.{rules, ◌≡◌, ◌≢◌, ℕ, ◌+◌, ◌<◌, ◌^◌, List, [], ◌∷◌, ◌++◌, length, get_or, take, drop, decimal, All, refl, subst, arith, append_assoc, take-append-drop}, lemmas.{List.{drop_more, Elements.{All-head, All-tail, All-nil, All-cons}}, Fmt.decimal_is_IsNumeral}}, specs.Str.Parse.AllDigits}
use Rattle.stn_records.specs.Id.{SiteCounter, id_text}

abbrev NotDot : ℕ → Type 0
NotDot byte = byte ≢ 46

no_dot : (ds : List ℕ) → AllDigits 10 ds → All NotDot ds
no_dot [] h = All-nil NotDot
no_dot (c ∷ ds) h = All-cons NotDot c ds (λ is. absurd (digit c is h.0)) (no_dot ds h.1)
  where
    digit : (c : ℕ) → c ≡ 46 → Rattle.std.specs.Char.digit_value c < 10 → ⊥
    digit c is below = let at : Rattle.std.specs.Char.digit_value 46 < 10 = subst (λ x. Rattle.std.specs.Char.digit_value x < 10) is below in omega arith

-- the decimal form of a number has no dot
pub decimal_no_dot : (n : ℕ) → n < 2 ^ 64 → All NotDot (decimal n)
decimal_no_dot n small = search (rules, no_dot, decimal_is_IsNumeral)

-- a text is split at its first dot in one way
pub split_once : (xs ys us vs : List ℕ) → All NotDot xs → All NotDot us → xs ++ (46 ∷ ys) ≡ us ++ (46 ∷ vs) → (xs ≡ us) × (ys ≡ vs)
split_once [] ys [] vs p q e = (refl, cc)
split_once [] ys (u ∷ us) vs p q e = absurd (All-head NotDot u us q (cc))
split_once (x ∷ xs) ys [] vs p q e = absurd (All-head NotDot x xs p (cc))
split_once (x ∷ xs) ys (u ∷ us) vs p q e =
    let first : x ≡ u = cc in
    let rest : xs ++ (46 ∷ ys) ≡ us ++ (46 ∷ vs) = cc in
    let both = split_once xs ys us vs (All-tail NotDot x xs p) (All-tail NotDot u us q) rest in
    (λ i. first i ∷ both.0 i, both.1)

-- the printed form, as what stands before its dot and after it
pub text_split : (id : SiteCounter) → id_text id ≡ decimal id.site ++ (46 ∷ decimal id.counter)
text_split id = search (rules, append_assoc)

-- a text at its dot
pub split_at : (text : List ℕ) (place : ℕ) (d : ℕ) → place < length text → get_or text place d ≡ 46 → text ≡ take place text ++ (46 ∷ drop (place + 1) text)
split_at text place d within is = search (rules, take-append-drop, drop_more)
