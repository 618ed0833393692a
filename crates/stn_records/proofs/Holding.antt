-- Whether all that one site holds is held by another.
use Rattle.std.{proofs.{Common.{rules, ◌≡◌, ◌↔◌, Bool, true, false, cond, ◌&&◌, ◌≤◌, List, [], ◌∷◌, Option, Some, None, option_and_then, Less, Equal, Greater, is_lt, sym, refl, ap, ◌∙◌, inl, inr, ⊎_elim}, lemmas.{Bool.{false≢true, and_from, and_parts, le-leb}, List.Sums.{AllPass-from_list_all, list_all-from_AllPass}}}, specs.{Bool.Decides, Prelude.IsTrue, FinMap.{FinMap, is_sorted, get-entries, Entries.below_all}}}
use Rattle.std.specs.FinMap as fin
use Rattle.stn_records.{specs.{Id.{SiteCounter, id_cmp}, Maps.HasEntries, Sorted.{is_there, has_entries}, Join.passing, JoinLaws.join_is, Content.{Content, addition, withdrawal, replacement, IsPart, most_known, is_limited, known_count, dispute_contents, join_contents, content_taken}, ContentLaws.{ids_total, ids_exact, contents_join}}, proofs.{Entries.{less_is, greater_back, below_less, find_below, passed_over}, Gets.{entries_from_get, get_from_entries}}}

module _ {X : Type 0} (same : X → X → Bool) where
  -- an entry of ours before all of theirs is none of theirs
  first_passed : (x : SiteCounter × X) (xs ys : List (SiteCounter × X)) → below_all id_cmp x.0 ys ≡ true → has_entries same xs ys ≡ has_entries same (x ∷ xs) ys
  first_passed x xs [] h = refl
  first_passed x xs (y ∷ ys) h =
      let below = and_parts _ _ h in
      λ i. is_there same (sym (passed_over ids_total y.0 x xs (less_is _ below.0)) i) y.1 && first_passed x xs ys below.1 i

  pub ours_first : (x y : SiteCounter × X) (xs ys : List (SiteCounter × X)) → is_sorted id_cmp (y ∷ ys) ≡ true → id_cmp x.0 y.0 ≡ Less → has_entries same xs (y ∷ ys) ≡ has_entries same (x ∷ xs) (y ∷ ys)
  ours_first x y xs ys h l = first_passed x xs (y ∷ ys) (and_from _ _ (ap is_lt l) (below_less ids_total x.0 y.0 ys l (and_parts _ _ h).0))

  pub both_first : (x y : SiteCounter × X) (xs ys : List (SiteCounter × X)) → is_sorted id_cmp (y ∷ ys) ≡ true → id_cmp x.0 y.0 ≡ Equal → has_entries same (x ∷ xs) (y ∷ ys) ≡ (same x.1 y.1 && has_entries same xs ys)
  both_first x y xs ys h t = search (rules, first_passed)

  pub theirs_first : (x y : SiteCounter × X) (xs ys : List (SiteCounter × X)) → is_sorted id_cmp (x ∷ xs) ≡ true → id_cmp x.0 y.0 ≡ Greater → has_entries same (x ∷ xs) (y ∷ ys) ≡ false
  theirs_first x y xs ys g t =
      let l = greater_back ids_total x.0 y.0 t in
      let none = find_below ids_total y.0 (x ∷ xs) (and_from _ _ (ap is_lt l) (below_less ids_total y.0 x.0 xs l (and_parts _ _ g).0)) in
      ap (λ b. b && has_entries same (x ∷ xs) ys) (ap (λ o. is_there same o y.1) none)

module _ {X : Type 0} (same : X → X → Bool) (decides : (x y : X) → Decides (same x y) (x ≡ y)) where
  is_own : (o : Option X) (x : X) → (is_there same o x ≡ true) ↔ (o ≡ Some x)
  is_own o x = search rules

  -- each entry of theirs is one of ours exactly where the one map has the other's entries
  pub held : (a b : FinMap id_cmp X) → IsTrue (has_entries same (fin.entries a) (fin.entries b)) ↔ HasEntries a b
  held a b = (
    λ all e there. get-entries a e.0 ∙ (is_own (fin.find id_cmp e.0 (fin.entries a)) e.1).0 (get_from_entries ids_total ids_exact b (λ f. test f ≡ true) (AllPass-from_list_all test (fin.entries b) all) e.0 e.1 there),
    λ all. list_all-from_AllPass test (fin.entries b) (entries_from_get ids_total ids_exact b (λ f. test f ≡ true) (λ q v there. (is_own (fin.find id_cmp q (fin.entries a)) v).1 (sym (get-entries a q) ∙ all (q, v) there))),
  )
    where
      test : SiteCounter × X → Bool
      test entry = is_there same (fin.find id_cmp entry.0 (fin.entries a)) entry.1

module _ (a b : Content) where
  -- what b holds is what a holds already
  pub joined_is : content_taken a b ≡ Some a → join_contents a b ≡ Some a
  joined_is is = search rules

  pub held_agrees : content_taken a b ≡ Some a → dispute_contents a b ≡ None
  held_agrees is = search rules

  -- all that b holds is held by a exactly where each part of it is
  pub told_part : IsPart b a ↔ (HasEntries a.tombstones b.tombstones × HasEntries a.additions b.additions × HasEntries a.replacements b.replacements)
  told_part = (
    λ inside. (λ e. inside (withdrawal e.0), λ e. inside (addition e.0 e.1), λ e. inside (replacement e.0 e.1)),
    λ parts. of_parts parts,
  )
    where
      of_parts : HasEntries a.tombstones b.tombstones × HasEntries a.additions b.additions × HasEntries a.replacements b.replacements → IsPart b a
      of_parts parts (addition id r) = parts.1 (id, r)
      of_parts parts (withdrawal id) = parts.0 (id, tt)
      of_parts parts (replacement id old) = parts.2 (id, old)

  -- and then a take leaves a as it is
  pub told_taken : known_count a ≤ most_known → IsPart b a ↔ (content_taken a b ≡ Some a)
  told_taken few = (
    λ inside. ap (option_and_then (passing is_limited)) (join_is contents_join a b a (λ item. (inl, λ h. ⊎_elim (λ x. x) (λ x. inside item x) h)))
        ∙ ap (λ b. cond b (Some a) None) (le-leb (known_count a) most_known few),
    λ is item h. (contents_join.union a b a (joined_is is) item).1 (inr h),
  )

-- what is told of the parts as they stand inside two sites
module _ (a b : Content) {s t : Content} (p : s ≡ a) (q : t ≡ b) where
  outside : (z : Bool) → IsTrue z ↔ IsPart t s → IsTrue z ↔ IsPart b a
  outside z told = search rules

  pub last_told : (z : Bool) → HasEntries s.tombstones t.tombstones → HasEntries s.additions t.additions → (IsTrue z ↔ HasEntries s.replacements t.replacements) → IsTrue z ↔ IsPart b a
  last_told z tombstones additions told = outside z (λ e. (told_part s t).1 (tombstones, additions, told.0 e), λ inside. told.1 ((told_part s t).0 inside).2)

  pub missed : (z : Bool) → z ≡ false → (HasEntries s.tombstones t.tombstones × HasEntries s.additions t.additions → ⊥) → IsTrue z ↔ IsPart b a
  missed z is none = outside z (λ e. absurd (false≢true (sym is ∙ e)), λ inside. let parts = (told_part s t).0 inside in absurd (none (parts.0, parts.1)))
