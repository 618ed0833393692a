-- Lists of entries whose keys rise: what is found in them, and in their merge.
use Rattle.std.{proofs.{lemmas.{Grind.common_steps, Bool.{false≢true, and_parts, and_from}}, Common.{rules, ◌≡◌, ℕ, zero, suc, ◌+◌, ◌<◌, ◌≤◌, Bool, true, false, cond, T, List, [], ◌∷◌, ◌++◌, length, get_or, Some, None, Ordering, Less, Equal, Greater, is_lt, is_eq, sym, refl, ap, ◌∙◌, arith, add-one, ◌⊎◌, append_assoc}}, specs.{List.{insert, IsAllAdjacentAnswer, Sorted.IsSortedBy}, Prelude.{IsTrue, ◌↔◌}, Ordering.ordering_reverse, Cmp.{IsTotalOrder, tied_back}, FinMap.{FinMap, IsAntisymmetric, is_sorted, put, entries-insert, Entries.{below_all, by_order}}}}
use Rattle.std.specs.FinMap as fin
use Rattle.stn_records.specs.{Maps.with_entries, Sorted.{merge, merge_from}}

-- what the logic takes as true holds
pub T_true : (b : Bool) → T b → b ≡ true
T_true b h = search rules

pub less_is : (r : Ordering) → is_lt r ≡ true → r ≡ Less
less_is r e = search rules

-- the entries of a map are in order
pub in_order : {K X : Type 0} {R : K → K → Ordering} (m : FinMap R X) → is_sorted R (fin.entries m) ≡ true
in_order m = T_true _ (fin.entries_sorted m)

module _ {K : Type 0} {R : K → K → Ordering} (o : IsTotalOrder R) where
  pub greater_back : (x y : K) → R x y ≡ Greater → R y x ≡ Less
  greater_back x y e = o.antisymm y x ∙ ap ordering_reverse e

  pub less_back : (x y : K) → R x y ≡ Less → R y x ≡ Greater
  less_back x y e = o.antisymm y x ∙ ap ordering_reverse e

module _ {K X : Type 0} {R : K → K → Ordering} (o : IsTotalOrder R) where
  pub below_less : (x y : K) (es : List (K × X)) → R x y ≡ Less → below_all R y es ≡ true → below_all R x es ≡ true
  below_less x y [] l h = refl
  below_less x y (e ∷ es) l h =
      let first = less_is (R y e.0) (and_parts _ _ h).0 in
      and_from _ _ (ap is_lt (o.trans x y e.0 l first)) (below_less x y es l (and_parts _ _ h).1)

  pub below_tied : (x y : K) (es : List (K × X)) → R x y ≡ Equal → below_all R y es ≡ true → below_all R x es ≡ true
  below_tied x y es t h = search rules

  -- nothing is found of a key below each
  pub find_below : (q : K) (es : List (K × X)) → below_all R q es ≡ true → fin.find R q es ≡ None
  find_below q [] h = refl
  find_below q (e ∷ es) h =
      ap (λ r. cond (is_eq r) (Some e.1) (fin.find R q es)) (less_is (R q e.0) (and_parts _ _ h).0) ∙ find_below q es (and_parts _ _ h).1

  -- an entry before a key is no match for it
  pub passed_over : (q : K) (e : K × X) (es : List (K × X)) → R e.0 q ≡ Less → fin.find R q (e ∷ es) ≡ fin.find R q es
  passed_over q e es l = cc (less_back o e.0 q l)

  -- each key is less than the next
  rising_on : (es : List (K × X)) → is_sorted R es ≡ true → (k : ℕ) (d : K × X) → suc k < length es → is_lt (R (get_or es k d).0 (get_or es (suc k) d).0) ≡ true
  rising_on [] h k d high = absurd (omega arith)
  rising_on (e ∷ []) h k d high = absurd (omega arith)
  rising_on (e ∷ f ∷ es) h zero d high = (and_parts _ _ (and_parts _ _ h).0).0
  rising_on (e ∷ f ∷ es) h (suc k) d high = rising_on (f ∷ es) (and_parts _ _ h).1 k d (omega arith)

  -- neighbours rise
  pub neighbours_rise : (es : List (K × X)) → is_sorted R es ≡ true → IsSortedBy (λ a b. is_lt (R a.0 b.0)) es
  neighbours_rise es h k d low high = rw add-one (ap is_lt (less_back o _ _ (less_is _ (rising_on es h k d (omega arith)))))

  -- entries whose neighbours rise are in order, and those of a list in order rise
  pub risen : (es : List (K × X)) → ((k : ℕ) (d : K × X) → k + 1 < length es → true ≡ is_lt (R (get_or es k d).0 (get_or es (k + 1) d).0)) → is_sorted R es ≡ true
  risen [] h = refl
  risen (e ∷ []) h = refl
  risen (e ∷ f ∷ es) h =
      let first : is_lt (R e.0 f.0) ≡ true = sym (h 0 e (omega arith)) in
      let rest = risen (f ∷ es) (λ k d l. rw add-one (rw add-one at (h (suc k) d (omega arith)))) in
      search (rules, and_from, below_less, less_is, and_parts)

  -- a test of neighbours tells whether the entries are in order
  pub rising_test : (es : List (K × X)) (r : Bool) → IsAllAdjacentAnswer (λ x y b. b ≡ is_lt (R x.0 y.0)) es r → IsTrue r ↔ IsTrue (is_sorted R es)
  rising_test es true h = (λ _. risen es h, λ _. refl)
  rising_test es false h = (
    λ f. absurd (false≢true f),
    λ sorted. absurd (no_fall es h sorted),
  )
    where
      no_fall : (es : List (K × X)) → (k : ℕ) × (k + 1 < length es) × ((d : K × X) → false ≡ is_lt (R (get_or es k d).0 (get_or es (k + 1) d).0)) → is_sorted R es ≡ true → ⊥
      no_fall [] h sorted = omega (arith, h.1)
      no_fall (e ∷ es) h sorted = false≢true (h.2 e ∙ rw add-one (rising_on (e ∷ es) sorted h.0 e (omega (arith, h.1))))

  -- a key at a place is above a key below each
  pub above_at : (x : K) (es : List (K × X)) → below_all R x es ≡ true → (at : ℕ) (d : K × X) → at < length es → R x (get_or es at d).0 ≡ Less
  above_at x [] h at d within = absurd (omega arith)
  above_at x (e ∷ es) h zero d within = less_is (R x e.0) (and_parts _ _ h).0
  above_at x (e ∷ es) h (suc at) d within = above_at x es (and_parts _ _ h).1 at d (omega arith)

  -- what is found of a key that stands at a place
  pub find_at : (es : List (K × X)) → is_sorted R es ≡ true → (q : K) (at : ℕ) (d : K × X) → at < length es → R q (get_or es at d).0 ≡ Equal → fin.find R q es ≡ Some (get_or es at d).1
  find_at [] h q at d within t = absurd (omega arith)
  find_at (e ∷ es) h q zero d within t = cc
  find_at (e ∷ es) h q (suc at) d within t =
      let above = above_at e.0 es (and_parts _ _ h).0 at d (omega arith) in
      let behind : R q e.0 ≡ Greater = search rules in
      ap (λ r. cond (is_eq r) (Some e.1) (fin.find R q es)) behind ∙ find_at es (and_parts _ _ h).1 q at d (omega arith) t

  -- where the keys before a place are lesser and those from it on greater, nothing is found
  pub find_gap : (es : List (K × X)) (q : K) (at : ℕ) → ((j : ℕ) (d : K × X) → j < at → R (get_or es j d).0 q ≡ Less) → ((j : ℕ) (d : K × X) → at ≤ j → j < length es → R (get_or es j d).0 q ≡ Greater) → fin.find R q es ≡ None
  find_gap [] q at before behind = refl
  find_gap (e ∷ es) q zero before behind =
      cc (greater_back o e.0 q (behind 0 e (omega arith) (omega arith)), find_gap es q zero (λ j d l. absurd (omega arith)) (λ j d l m. behind (suc j) d (omega arith) (omega arith)))
  find_gap (e ∷ es) q (suc at) before behind =
      cc (less_back o e.0 q (before 0 e (omega arith)), find_gap es q at (λ j d l. before (suc j) d (omega arith)) (λ j d l m. behind (suc j) d (omega arith) (omega arith)))

  -- and an entry is put there
  pub put_gap : (es : List (K × X)) (q : K) (x : X) (at : ℕ) → at ≤ length es → ((j : ℕ) (d : K × X) → j < at → R (get_or es j d).0 q ≡ Less) → ((j : ℕ) (d : K × X) → at ≤ j → j < length es → R (get_or es j d).0 q ≡ Greater) → insert es at (q, x) ≡ put R q x es
  put_gap [] q x zero within before behind = refl
  put_gap [] q x (suc at) within before behind = absurd (omega arith)
  put_gap (e ∷ es) q x zero within before behind = cc (greater_back o e.0 q (behind 0 e (omega arith) (omega arith)))
  put_gap (e ∷ es) q x (suc at) within before behind =
      cc (put_gap es q x at (omega arith) (λ j d l. before (suc j) d (omega arith)) (λ j d l m. behind (suc j) d (omega arith) (omega arith)), less_back o e.0 q (before 0 e (omega arith)))

  -- ---- the merge
  ahead : (x e : K × X) (es : List (K × X)) → R x.0 e.0 ≡ Less → put R x.0 x.1 (e ∷ es) ≡ x ∷ e ∷ es
  ahead x e es l = cc

  -- what stands before all of the first list comes first
  merged_first : (xs : List (K × X)) (y : K × X) (ys : List (K × X)) → below_all R y.0 xs ≡ true → merge R xs (y ∷ ys) ≡ y ∷ merge R xs ys
  merged_first [] y ys h = refl
  merged_first (x ∷ xs) y ys h = search rules

  put_first : (x : K × X) (xs : List (K × X)) (y : K × X) (ys : List (K × X)) → below_all R x.0 xs ≡ true → R x.0 y.0 ≡ Less → put R x.0 x.1 (merge R xs (y ∷ ys)) ≡ x ∷ merge R xs (y ∷ ys)
  put_first x [] y ys h l = ahead x y ys l
  put_first x (a ∷ xs) y ys h l = search rules

  -- to merge one entry more is to put it in
  merged_more : IsAntisymmetric R → (x : K × X) (xs ys : List (K × X)) → below_all R x.0 xs ≡ true → merge R (x ∷ xs) ys ≡ put R x.0 x.1 (merge R xs ys)
  merged_more exact x [] [] h = refl
  merged_more exact x (a ∷ xs) [] h = search rules
  merged_more exact x xs (y ∷ ys) h =
      elim (R x.0 y.0) as (λ r. R x.0 y.0 ≡ r → by_order r (x ∷ merge R xs (y ∷ ys)) (x ∷ merge R xs ys) (y ∷ merge_from R x (merge R xs) ys) ≡ put R x.0 x.1 (merge R xs (y ∷ ys))) [
        | Less ↦ λ t. sym (put_first x xs y ys h t)
        | Equal ↦ λ t.
            (λ i. (exact x.0 y.0 t i, x.1) ∷ merge R xs ys)
            ∙ sym (ap (put R x.0 x.1) (merged_first xs y ys (below_tied y.0 x.0 xs (tied_back o x.0 y.0 t) h)) ∙ ap (λ r. by_order r (x ∷ y ∷ merge R xs ys) ((y.0, x.1) ∷ merge R xs ys) (y ∷ put R x.0 x.1 (merge R xs ys))) t)
        | Greater ↦ λ t.
            ap (λ l. y ∷ l) (merged_more exact x xs ys h)
            ∙ sym (ap (put R x.0 x.1) (merged_first xs y ys (below_less y.0 x.0 xs (greater_back o x.0 y.0 t) h)) ∙ ap (λ r. by_order r (x ∷ y ∷ merge R xs ys) ((y.0, x.1) ∷ merge R xs ys) (y ∷ put R x.0 x.1 (merge R xs ys))) t)
      ] refl

  -- the merge with the entries of a map is the map with the entries put in
  pub merge_entries : IsAntisymmetric R → (xs : List (K × X)) (m : FinMap R X) → is_sorted R xs ≡ true → merge R xs (fin.entries m) ≡ fin.entries (with_entries m xs)
  merge_entries exact [] m h = refl
  merge_entries exact (x ∷ xs) m h =
      merged_more exact x xs (fin.entries m) (and_parts _ _ h).0 ∙ ap (put R x.0 x.1) (merge_entries exact xs m (and_parts _ _ h).1) ∙ sym (entries-insert o (with_entries m xs) x.0 x.1)

-- a merge with nothing
pub merge-nil : {K X : Type 0} (R : K → K → Ordering) (xs : List (K × X)) → merge R xs [] ≡ xs
merge-nil R [] = refl
merge-nil R (x ∷ xs) = ap (λ l. x ∷ l) (merge-nil R xs)

-- where one list is at its end, the merge is the other
rest_merged : {K X : Type 0} (R : K → K → Ordering) (xs ys : List (K × X)) → (length xs ≡ 0) ⊎ (length ys ≡ 0) → xs ++ ys ≡ merge R xs ys
rest_merged R xs ys end = grind (arith, common_steps, merge-nil)

-- the merge so far and what both lists have left are the merge
pub merge_ends : {K X : Type 0} (R : K → K → Ordering) (all more last whole xs ys : List (K × X)) → (length xs ≡ 0) ⊎ (length ys ≡ 0) → all ++ merge R xs ys ≡ whole → more ≡ all ++ xs → last ≡ more ++ ys → last ≡ whole
merge_ends R all more last whole xs ys end is first second = search (rules, append_assoc, rest_merged)
