-- Texts of pieces of one length.
use Rattle.std.{proofs.{lemmas.Grind.common_steps, Common.{rules, ◌≡◌, ℕ, ◌*◌, ◌<◌, ◌≤◌, ◌^◌, List, [], ◌∷◌, ◌++◌, length, take, drop, refl, sym, ap, ◌∙◌, append_assoc, arith, length-append}}, specs.List.{flat_map, AllByRecursion}}
use Rattle.stn_wire.specs.{Spelling.{measured, counted, AreCounted}, Apart.{two_apart, four_apart, cut_alike}}

-- texts after their lengths with the same bytes are the same
pub measured_cut : (s t x y : List ℕ) → length s < 2 ^ 32 → length t < 2 ^ 32 → measured s ++ x ≡ measured t ++ y → (s ≡ t) × (x ≡ y)
measured_cut s t x y p q e = cut_alike s t x y (four_apart (length s) (length t) p q (ap (take 4) e)) (ap (drop 4) e)

module _ {X : Type 0} (Valid : X → Type 0) (spell : X → List ℕ) (wide : ℕ) (sized : (x : X) → length (spell x) ≡ wide) where
  next_cut : (x v : X) (xs vs : List X) (rest behind : List ℕ) → flat_map spell (x ∷ xs) ++ rest ≡ flat_map spell (v ∷ vs) ++ behind → (spell x ≡ spell v) × (flat_map spell xs ++ rest ≡ flat_map spell vs ++ behind)
  next_cut x v xs vs rest behind e =
      cut_alike (spell x) (spell v) (flat_map spell xs ++ rest) (flat_map spell vs ++ behind) (sized x ∙ sym (sized v))
      (sym (append_assoc (spell x) (flat_map spell xs) rest) ∙ e ∙ append_assoc (spell v) (flat_map spell vs) behind)

  pub length-flat_map : (xs : List X) → length (flat_map spell xs) ≡ length xs * wide
  length-flat_map [] = omega arith
  length-flat_map (x ∷ xs) = omega (arith, length-append (spell x) (flat_map spell xs), length-flat_map xs)

  -- what stands after some items in a text of more valid ones begins with one of these
  pub next_spelled : (xs vs : List X) (rest behind : List ℕ) → length xs < length vs → AllByRecursion Valid vs → flat_map spell xs ++ rest ≡ flat_map spell vs ++ behind → (v : X) × Valid v × ((more : List ℕ) × (rest ≡ spell v ++ more))
  next_spelled xs [] rest behind l all e = absurd (omega arith)
  next_spelled [] (v ∷ vs) rest behind l all e = search (rules, append_assoc)
  next_spelled (x ∷ xs) (v ∷ vs) rest behind l all e = next_spelled xs vs rest behind (omega arith) all.1 (next_cut x v xs vs rest behind e).1

  module _ (apart : (a b : X) → Valid a → Valid b → spell a ≡ spell b → a ≡ b) where
    -- as many valid items with the same bytes are the same, and so is what stands after them
    pub flat_cut : (xs vs : List X) (rest behind : List ℕ) → length xs ≡ length vs → AllByRecursion Valid xs → AllByRecursion Valid vs → flat_map spell xs ++ rest ≡ flat_map spell vs ++ behind → (xs ≡ vs) × (rest ≡ behind)
    flat_cut [] [] rest behind l p q e = (refl, e)
    flat_cut [] (v ∷ vs) rest behind l p q e = absurd (omega arith)
    flat_cut (x ∷ xs) [] rest behind l p q e = absurd (omega arith)
    flat_cut (x ∷ xs) (v ∷ vs) rest behind l p q e =
        let both = next_cut x v xs vs rest behind e in
        let first = apart x v p.0 q.0 both.0 in
        let others = flat_cut xs vs rest behind (omega arith) p.1 q.1 both.1 in
        (λ i. first i ∷ others.0 i, others.1)

    -- counted lists with the same bytes are the same
    pub counted_cut : (xs vs : List X) (rest behind : List ℕ) → AreCounted Valid xs → AreCounted Valid vs → counted spell xs ++ rest ≡ counted spell vs ++ behind → (xs ≡ vs) × (rest ≡ behind)
    counted_cut xs vs rest behind p q e =
        let long = two_apart (length xs) (length vs) p.few q.few (ap (take 2) e) in
        flat_cut xs vs rest behind long p.each q.each (ap (drop 2) e)

  -- so the next item stands in front of what is left
  pub record IsNext (rest : List ℕ) : Type 0 where
    pub item : X
    pub valid : Valid item
    pub long : wide ≤ length rest
    pub front : take wide rest ≡ spell item

  pub next_item : (xs vs : List X) (bytes rest behind : List ℕ) → length xs < length vs → AllByRecursion Valid vs → bytes ≡ flat_map spell xs ++ rest → bytes ≡ flat_map spell vs ++ behind → IsNext rest
  next_item xs vs bytes rest behind l all ours theirs = grind (arith, common_steps, next_spelled)
