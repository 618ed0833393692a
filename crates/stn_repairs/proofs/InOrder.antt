-- The ids of the refused records, in order, are those among the live ones.
use Rattle.std.{proofs.{Common.{rules, ◌≡◌, ◌+◌, Bool, true, false, ◌&&◌, ◌||◌, not, Less, is_lt, List, [], ◌∷◌, ◌++◌, map, filter, get_or, sym, ap, subst, ◌∙◌, ⊎_elim, arith}, lemmas.{Bool.{and_parts, or_right}, List.{Kept.IsStrictlySortedBy-filter, Sorted.{IsPermutation-filter_both, IsPermutation-map, list_any-IsPermutation}}, Map.{Keys.{IsDistinct-cons, IsDistinct-from_sorted, IsDistinct-head, IsDistinct-tail, IsDistinct-IsPermutation, apart_from_distinct, sorted_from_all_adjacent}, Lookups.btree_set_from_contains, Made.is_member-filter}}}, specs.{Cmp.{IsEquivalence, eq_by_cmp_equiv}, List.{AllByRecursion, IsDistinct, Sorted.{IsPermutation, IsSorted, IsStrictlySortedBy}}, Set.is_member, FinMap.{is_sorted, Entries.below_all}}}
use Rattle.stn_net.specs.Difference.{Difference}
use Rattle.stn_records.{specs.{Id.{SiteCounter, id_cmp, same_ids}, Record.same_marks, declared.record.{Mark.{Mark, TheVariants.{Plain, Done}}, Record.Record}, ContentLaws.{ids_decide, ids_exact, ids_total}}, proofs.Entries.less_is}
use Rattle.stn_repairs.specs.Dropped.{facts_first, AreRefused}

laws : IsEquivalence same_ids
laws = eq_by_cmp_equiv ids_total

abbrev ids_of : List (SiteCounter × Record) → List SiteCounter
ids_of records = map (λ (entry : SiteCounter × Record). entry.0) records

-- the ids of records in order rise
all_below : (key : SiteCounter) (records : List (SiteCounter × Record)) → below_all id_cmp key records ≡ true → AllByRecursion (λ other. id_cmp key other ≡ Less) (ids_of records)
all_below key [] e = tt
all_below key (entry ∷ records) e = let both = and_parts _ _ e in (less_is _ both.0, all_below key records both.1)

ids_rise : (records : List (SiteCounter × Record)) → is_sorted id_cmp records ≡ true → IsStrictlySortedBy id_cmp (ids_of records)
unfolding IsStrictlySortedBy
ids_rise [] e = tt
ids_rise (entry ∷ records) e = let both = and_parts _ _ e in (all_below entry.0 records both.0, ids_rise records both.1)

-- and so do ids that were sorted, and differ
next_less : (a b : SiteCounter) → is_lt (id_cmp b a) ≡ false → same_ids a b ≡ false → id_cmp a b ≡ Less
next_less a b up apart = search rules

nobody : SiteCounter
nobody = record { site = 0; counter = 0 }

sorted_rise : (ids : List SiteCounter) → IsSorted id_cmp ids → IsDistinct same_ids ids → IsStrictlySortedBy id_cmp ids
sorted_rise ids in_order differ =
    sorted_from_all_adjacent ids_total ids nobody (λ k within.
    next_less (get_or ids k nobody) (get_or ids (k + 1) nobody) (in_order k nobody (omega arith) within) (apart_from_distinct same_ids ids k (k + 1) nobody differ (omega arith) within))

-- what holds of the ids of all records holds of those that are refused
each_refused : (P : SiteCounter → Type 0) (kept : List Difference) (order : List (SiteCounter × Record)) (refused : List SiteCounter) → AreRefused kept order refused
    → AllByRecursion P (ids_of order) → AllByRecursion P refused
each_refused P kept [] refused are all = subst (AllByRecursion P) (sym are) tt
each_refused P kept (entry ∷ rest) refused are all =
    ⊎_elim
    (λ h. each_refused P (kept ++ entry.1.bound ∷ []) rest refused h.1 all.1)
    (λ h. subst (AllByRecursion P) (sym h.3) (all.0, each_refused P kept rest h.1 h.2 all.1))
    are

-- no id is refused twice
refused_differ : (kept : List Difference) (order : List (SiteCounter × Record)) (refused : List SiteCounter) → AreRefused kept order refused
    → IsDistinct same_ids (ids_of order) → IsDistinct same_ids refused
refused_differ kept [] refused are differ = search rules
refused_differ kept (entry ∷ rest) refused are differ =
    let others = IsDistinct-tail same_ids entry.0 (ids_of rest) differ in
    ⊎_elim
    (λ h. refused_differ (kept ++ entry.1.bound ∷ []) rest refused h.1 others)
    (λ h. subst (IsDistinct same_ids) (sym h.3)
    (IsDistinct-cons same_ids entry.0 h.1
    (each_refused (λ id. same_ids entry.0 id ≡ false) kept rest h.1 h.2 (IsDistinct-head same_ids entry.0 (ids_of rest) differ))
    (refused_differ kept rest h.1 h.2 others)))
    are

-- and each is that of a record
or_later : (a b c : Bool) → (b ≡ true → c ≡ true) → (a || b) ≡ true → (a || c) ≡ true
or_later a b c implied either = search rules

refused_among : (id : SiteCounter) (kept : List Difference) (order : List (SiteCounter × Record)) (refused : List SiteCounter) → AreRefused kept order refused
    → is_member same_ids refused id ≡ true → is_member same_ids (ids_of order) id ≡ true
refused_among id kept [] refused are has = cc
refused_among id kept (entry ∷ rest) refused are has =
    ⊎_elim
    (λ h. or_right (same_ids id entry.0) _ (refused_among id (kept ++ entry.1.bound ∷ []) rest refused h.1 has))
    (λ h. or_later (same_ids id entry.0) (is_member same_ids h.1 id) _ (refused_among id kept rest h.1 h.2) (ap (λ (ids : List SiteCounter). is_member same_ids ids id) (sym h.3) ∙ has))
    are

other_mark : (mark : Mark) → same_marks mark Plain ≡ not (same_marks mark Done)
other_mark mark = search rules

and_implied : (a b : Bool) → (b ≡ true → a ≡ true) → b ≡ (a && b)
and_implied a b implied = search rules

-- the refused ids, sorted
pub sorted_are : (base : List Difference) (live : List (SiteCounter × Record)) (refused ids : List SiteCounter) → is_sorted id_cmp live ≡ true → AreRefused base (facts_first live) refused
    → IsPermutation refused ids → IsSorted id_cmp ids → ids ≡ filter (λ id. is_member same_ids refused id) (ids_of live)
sorted_are base live refused ids rising are shuffled in_order =
    btree_set_from_contains ids_total (record { keys = ids }) (record { keys = filter (λ id. is_member same_ids refused id) (ids_of live) })
    (sorted_rise ids in_order (IsDistinct-IsPermutation same_ids laws.symm refused ids shuffled (refused_differ base (facts_first live) refused are differ)))
    (IsStrictlySortedBy-filter id_cmp (λ id. is_member same_ids refused id) (ids_of live) rise)
    same ids_exact
  where
    rise : IsStrictlySortedBy id_cmp (ids_of live)
    rise = ids_rise live rising

    turns : IsPermutation (ids_of live) (ids_of (facts_first live))
    turns =
        IsPermutation-map (λ (entry : SiteCounter × Record). entry.0) live (facts_first live)
        (IsPermutation-filter_both (λ entry. same_marks entry.1.mark Done) (λ entry. same_marks entry.1.mark Plain) (λ entry. other_mark entry.1.mark) live)

    differ : IsDistinct same_ids (ids_of (facts_first live))
    differ = IsDistinct-IsPermutation same_ids laws.symm (ids_of live) (ids_of (facts_first live)) turns (IsDistinct-from_sorted id_cmp (ids_of live) rise)

    same : (id : SiteCounter) → is_member same_ids ids id ≡ is_member same_ids (filter (λ one. is_member same_ids refused one) (ids_of live)) id
    same id =
        sym (list_any-IsPermutation (same_ids id) refused ids shuffled)
        ∙ and_implied (is_member same_ids (ids_of live) id) (is_member same_ids refused id)
        (λ has. list_any-IsPermutation (same_ids id) (ids_of live) (ids_of (facts_first live)) turns ∙ refused_among id base (facts_first live) refused are has)
        ∙ sym (is_member-filter laws (λ one. is_member same_ids refused one) id (λ other e. ap (λ one. is_member same_ids refused one) ((ids_decide id other).0 e)) (ids_of live))
