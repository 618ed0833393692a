-- The first id in dispute of two lists, by their first entries.
use Rattle.std.{proofs.{lemmas.{Grind.common_steps, Bool.{and_parts, and_from}}, Common.{rules, ◌≡◌, Bool, true, false, cond, List, [], ◌∷◌, Option, Some, None, find, Less, Equal, Greater, is_lt, length, ◌⊎◌, arith, sym, ap}}, specs.{FinMap.{FinMap, is_sorted, get-entries, Entries.below_all}, Map.keys_of}}
use Rattle.std.specs.FinMap as fin
use Rattle.stn_records.{specs.{Id.{SiteCounter, id_cmp}, Maps.{differ, dispute}, Sorted.dispute_of, ContentLaws.ids_total, MapLaws.none_found}, proofs.Entries.{less_is, greater_back, below_less, find_below, passed_over}}

module _ {X : Type 0} (equal : X → X → Bool) where
  -- whether an id has different values in two lists
  abbrev in_dispute : List (SiteCounter × X) → List (SiteCounter × X) → SiteCounter → Bool
  in_dispute xs ys id = differ equal (fin.find id_cmp id xs) (fin.find id_cmp id ys)

  -- two tests that answer alike above an id find alike among entries above it
  found_above : (b : SiteCounter) (p q : SiteCounter → Bool) → ((k : SiteCounter) → id_cmp b k ≡ Less → p k ≡ q k) → (es : List (SiteCounter × X)) → below_all id_cmp b es ≡ true → find p (keys_of es) ≡ find q (keys_of es)
  found_above b p q same [] h i = None
  found_above b p q same (e ∷ es) h i =
      cond (same e.0 (less_is _ (and_parts _ _ h).0) i) (Some e.0) (found_above b p q same es (and_parts _ _ h).1 i)

  found_first : (id : SiteCounter) (e : SiteCounter × X) (es : List (SiteCounter × X)) → id_cmp id e.0 ≡ Equal → fin.find id_cmp id (e ∷ es) ≡ Some e.1
  found_first id e es t = cc

  no_difference : (o : Option X) → differ equal o None ≡ false
  no_difference o = search rules

  -- the first id of ours comes first: theirs has no value of it
  pub ours_first : (x : SiteCounter × X) (xs : List (SiteCounter × X)) (y : SiteCounter × X) (ys : List (SiteCounter × X)) → is_sorted id_cmp (x ∷ xs) ≡ true → is_sorted id_cmp (y ∷ ys) ≡ true → id_cmp x.0 y.0 ≡ Less → dispute_of equal xs (y ∷ ys) ≡ dispute_of equal (x ∷ xs) (y ∷ ys)
  ours_first x xs y ys g h l =
      let none = find_below ids_total x.0 (y ∷ ys) (and_from _ _ (ap is_lt l) (below_less ids_total x.0 y.0 ys l (and_parts _ _ h).0)) in
      let agreed : in_dispute (x ∷ xs) (y ∷ ys) x.0 ≡ false = search rules in
      search (rules, found_above, passed_over, and_parts)

  -- the first id of theirs comes first: no id of ours is its
  pub theirs_first : (x : SiteCounter × X) (xs : List (SiteCounter × X)) (y : SiteCounter × X) (ys : List (SiteCounter × X)) → is_sorted id_cmp (x ∷ xs) ≡ true → is_sorted id_cmp (y ∷ ys) ≡ true → id_cmp x.0 y.0 ≡ Greater → dispute_of equal (x ∷ xs) ys ≡ dispute_of equal (x ∷ xs) (y ∷ ys)
  theirs_first x xs y ys g h t =
      let l = greater_back ids_total x.0 y.0 t in
      found_above y.0 (in_dispute (x ∷ xs) ys) (in_dispute (x ∷ xs) (y ∷ ys)) (λ k a. ap (differ equal (fin.find id_cmp k (x ∷ xs))) (sym (passed_over ids_total k y ys a))) (x ∷ xs) (and_from _ _ (ap is_lt l) (below_less ids_total y.0 x.0 xs l (and_parts _ _ g).0))

  pub both_agree : (x : SiteCounter × X) (xs : List (SiteCounter × X)) (y : SiteCounter × X) (ys : List (SiteCounter × X)) → is_sorted id_cmp (x ∷ xs) ≡ true → is_sorted id_cmp (y ∷ ys) ≡ true → id_cmp x.0 y.0 ≡ Equal → equal x.1 y.1 ≡ true → dispute_of equal xs ys ≡ dispute_of equal (x ∷ xs) (y ∷ ys)
  both_agree x xs y ys g h t s = grind (arith, common_steps, found_above)

  -- where one list is at its end, nothing is in dispute
  no_more : (xs : List (SiteCounter × X)) → dispute_of equal xs [] ≡ None
  no_more xs = none_found (in_dispute xs []) (keys_of xs) (λ k. no_difference (fin.find id_cmp k xs))

  pub ended : (xs ys : List (SiteCounter × X)) → (length xs ≡ 0) ⊎ (length ys ≡ 0) → None ≡ dispute_of equal xs ys
  ended xs ys end = grind (arith, common_steps, no_more)

-- the dispute of two maps, as it is read from their entries
pub disputed : {X : Type 0} (equal : X → X → Bool) (a b : FinMap id_cmp X) → dispute_of equal (fin.entries a) (fin.entries b) ≡ dispute equal a b
disputed equal a b i = find (λ id. differ equal (sym (get-entries a id) i) (sym (get-entries b id) i)) (fin.keys a)
