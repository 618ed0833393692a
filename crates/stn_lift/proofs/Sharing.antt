-- What is in two lists at once, by atoms and by their numbers.
use Rattle.std.{specs.{Prelude.slice_index_or, List.{AllZip}}, proofs.{Common.{rules, ◌≡◌, ℕ, Bool, nat_eq, List, [], ◌∷◌, zero, suc, Contains, Decides, refl, sym, ap, subst, ◌∙◌}, lemmas.{Bool.Decides.{Decides-eqb, same_from_decides}, List.Folds.{Any-from_list_any, list_any-from_Any}, Option.same_Some, Slice.Eq.{slice_eq-Decides}}}}
use Rattle.stn_lift.{specs.{Footprints.{GroundAtom, Footprint, no_footprint, is_same_atom, IsInBoth, share, touches, interfere}, Numbering.{Numbering, AreDifferent, IsUnambiguous, IsNameAt, IsNumberOf, AreNumbersOf, IsNumbered}, Timelines.numbers_at}}

-- the test finds an element that is in both lists, and none where there is none
pub share-Decides : {X : Type 0} (same : X → X → Bool) → ((a b : X) → Decides (same a b) (a ≡ b)) → (xs ys : List X) → Decides (share same xs ys) (IsInBoth xs ys)
share-Decides {X} same decides xs ys = search (rules, Any-from_list_any, list_any-from_Any)

pub is_same_atom-Decides : (a b : GroundAtom) → Decides (is_same_atom a b) (a ≡ b)
is_same_atom-Decides a b = search (rules, slice_eq-Decides)

module _ (numbering : Numbering) where
  -- a spelling is that of one atom
  one_atom : (spelling : List ℕ) (a b : GroundAtom) → AllZip (IsNameAt numbering.names) spelling a → AllZip (IsNameAt numbering.names) spelling b → a ≡ b
  one_atom [] [] [] p q = refl
  one_atom [] [] (y ∷ b) p q = absurd q
  one_atom [] (x ∷ a) b p q = absurd p
  one_atom (n ∷ spelling) [] b p q = absurd p
  one_atom (n ∷ spelling) (x ∷ a) [] p q = absurd q
  one_atom (n ∷ spelling) (x ∷ a) (y ∷ b) p q =
      let first : x ≡ y = same_Some x y (sym p.0 ∙ q.0) in
      let others : a ≡ b = one_atom spelling a b p.1 q.1 in
      ap (λ z. z ∷ a) first ∙ ap (λ l. y ∷ l) others

  -- an atom has one spelling
  one_spelling : AreDifferent numbering.names → (s t : List ℕ) (atom : GroundAtom) → AllZip (IsNameAt numbering.names) s atom → AllZip (IsNameAt numbering.names) t atom → s ≡ t
  one_spelling different [] [] [] p q = refl
  one_spelling different [] (m ∷ t) [] p q = absurd q
  one_spelling different [] t (y ∷ atom) p q = absurd p
  one_spelling different (n ∷ s) t [] p q = absurd p
  one_spelling different (n ∷ s) [] (y ∷ atom) p q = absurd q
  one_spelling different (n ∷ s) (m ∷ t) (y ∷ atom) p q =
      let first : n ≡ m = different n m y p.0 q.0 in
      let others : s ≡ t = one_spelling different s t atom p.1 q.1 in
      ap (λ z. z ∷ s) first ∙ ap (λ l. m ∷ l) others

  same_atoms : {number : ℕ} {a b : GroundAtom} → IsNumberOf numbering number a → IsNumberOf numbering number b → a ≡ b
  same_atoms p q = search (rules, one_atom)

  same_numbers : IsUnambiguous numbering → {n m : ℕ} {atom : GroundAtom} → IsNumberOf numbering n atom → IsNumberOf numbering m atom → n ≡ m
  same_numbers unambiguous p q = search (rules, one_spelling)

  module _ (unambiguous : IsUnambiguous numbering) where
    -- numbers are shared where atoms are
    same_share : {ns ms : List ℕ} {xs ys : List GroundAtom} → AreNumbersOf numbering ns xs → AreNumbersOf numbering ms ys → share nat_eq ns ms ≡ share is_same_atom xs ys
    same_share {ns} {ms} {xs} {ys} first second =
        same_from_decides (share nat_eq ns ms) (share is_same_atom xs ys) numbers (share-Decides is_same_atom is_same_atom-Decides xs ys)
      where
        to : IsInBoth ns ms → IsInBoth xs ys
        to both =
            let x = first.sound both.0 both.1 in
            let y = second.sound both.0 both.2 in
            (x.0, x.2, subst (Contains ys) (sym (same_atoms x.1 y.1)) y.2)

        from : IsInBoth xs ys → IsInBoth ns ms
        from both =
            let n = first.full both.0 both.1 in
            let m = second.full both.0 both.2 in
            (n.0, n.2, subst (Contains ms) (sym (same_numbers unambiguous n.1 m.1)) m.2)

        numbers : Decides (share nat_eq ns ms) (IsInBoth xs ys)
        numbers = let d = share-Decides nat_eq Decides-eqb ns ms in (λ e. to (d.0 e), λ both. d.1 (from both))

    same_touches : {n m : Footprint ℕ} {x y : Footprint GroundAtom} → IsNumbered numbering n x → IsNumbered numbering m y → touches nat_eq n m ≡ touches is_same_atom x y
    same_touches {n} {m} {x} {y} first second =
        rw (
          same_share first.needs second.adds,
          same_share first.needs second.deletes,
          same_share first.adds second.deletes,
        ) refl

    -- events interfere by their numbers where they do by their atoms
    pub same_interfere : {n m : Footprint ℕ} {x y : Footprint GroundAtom} → IsNumbered numbering n x → IsNumbered numbering m y → interfere nat_eq n m ≡ interfere is_same_atom x y
    same_interfere {n} {m} {x} {y} first second = rw (same_touches first second, same_touches second first) refl

  pub none_numbered : IsNumbered numbering no_footprint no_footprint
  none_numbered = search rules

  -- the footprint at a place
  pub numbered_at : (numbered : List (Footprint ℕ)) (atoms : List (Footprint GroundAtom)) → AllZip (IsNumbered numbering) numbered atoms → (event : ℕ)
      → IsNumbered numbering (numbers_at numbered event) (slice_index_or atoms event no_footprint)
  numbered_at [] [] all event = none_numbered
  numbered_at [] (b ∷ atoms) all event = absurd all
  numbered_at (a ∷ numbered) [] all event = absurd all
  numbered_at (a ∷ numbered) (b ∷ atoms) all zero = all.0
  numbered_at (a ∷ numbered) (b ∷ atoms) all (suc event) = numbered_at numbered atoms all.1 event
