-- What is kept has a schedule, and has none with any one record that is dropped.
use Rattle.std.{proofs.{Common.{rules, ◌≡◌, not, List, [], ◌∷◌, ◌++◌, filter, sym, ap, subst, ◌∙◌, inl, inr, ⊎_elim, ◌⊎◌}, lemmas.{Bool.Decides.Decides-not, List.{Elements.{Contains-append_left, Contains-append_right, Contains-push, Contains-push_cases}, Sorted.{Contains-permutation, IsPermutation-filter_both, IsPermutation-sym}}, Map.Made.is_member-Decides}}, specs.{Bool.Decides, Prelude.true, List.{Contains, Sorted.IsPermutation}, Set.is_member}}
use Rattle.stn_net.specs.{Difference.Difference, Schedule.HasSchedule}
use Rattle.stn_records.specs.{Id.{SiteCounter, same_ids}, declared.record.Record.Record, ContentLaws.ids_decide}
use Rattle.stn_site.specs.Bounds.{bounds_of}
use Rattle.stn_repairs.{specs.Dropped.{facts_first, AreRefused, AreDropped, kept_bounds}, proofs.Elements.{first_of, later_of, first_or_later, none_of_nothing, kept_by, mapped}}
use Rattle.stn_laws.proofs.repairs.Fewer.{AreAmong, both_among, more_among, from_filter, from_map, fewer_have}

abbrev pub Records : Type 0
Records = List (SiteCounter × Record)

-- the bounds that are kept, of the base and of records of the list: they have a schedule; the id of each other record is refused, and each
-- refused id is one of a record with which they have none
record AreKept (base : List Difference) (order : Records) (refused : List SiteCounter) : Type 0 where
  kept : List Difference
  possible : HasSchedule kept
  begins : AreAmong base kept
  among : (bound : Difference) → Contains kept bound → Contains base bound ⊎ ((entry : SiteCounter × Record) × Contains order entry × (entry.1.bound ≡ bound))
  each : (entry : SiteCounter × Record) → Contains order entry → Contains kept entry.1.bound ⊎ Contains refused entry.0
  none : (id : SiteCounter) → Contains refused id → (one : Record) × Contains order (id, one) × ¬ HasSchedule (kept ++ one.bound ∷ [])

are_kept : (base : List Difference) (order : Records) (refused : List SiteCounter) → HasSchedule base → AreRefused base order refused → AreKept base order refused
are_kept base [] refused has are = search (rules)
are_kept base (first ∷ rest) refused has are =
    ⊎_elim
    (λ h.
    let later = are_kept _ rest _ h.0 h.1 in
    record {
      kept = later.kept;
      possible = later.possible;
      begins = λ bound there. later.begins bound (Contains-append_left base _ bound there);
      among = λ bound there. ⊎_elim
          (λ before. ⊎_elim (λ own. inl own) (λ same. inr (first, first_of first rest, same)) (Contains-push_cases base _ bound before))
          (λ of_record. inr (of_record.0, later_of first rest _ of_record.1, of_record.2))
          (later.among bound there);
      each = λ entry there. ⊎_elim
          (λ same. inl (subst (λ (e : SiteCounter × Record). Contains later.kept e.1.bound) same (later.begins first.1.bound (Contains-push base _))))
          (λ behind. later.each entry behind)
          (first_or_later first rest entry there);
      none = λ id there. let (one, found, without) = later.none id there in (one, later_of first rest _ found, without);
    })
    (λ h.
    let later = are_kept base rest h.1 has h.2 in
    subst (AreKept base (first ∷ rest)) (sym h.3) (record {
      kept = later.kept;
      possible = later.possible;
      begins = later.begins;
      among = λ bound there. ⊎_elim (λ own. inl own) (λ of_record. inr (of_record.0, later_of first rest _ of_record.1, of_record.2)) (later.among bound there);
      each = λ entry there. ⊎_elim
          (λ same. inr (subst (λ (e : SiteCounter × Record). Contains (first.0 ∷ h.1) e.0) same (first_of _ h.1)))
          (λ behind. ⊎_elim (λ kept. inl kept) (λ gone. inr (later_of _ h.1 _ gone)) (later.each entry behind))
          (first_or_later first rest entry there);
      none = λ id there. ⊎_elim
          (λ same. (
            first.1,
            subst (λ (i : SiteCounter). Contains (first ∷ rest) (i, first.1)) same (first_of first rest),
            λ some. h.0 (fewer_have _ _ (more_among base later.kept first.1.bound later.begins) some),
          ))
          (λ behind. let (one, found, without) = later.none id behind in (one, later_of first rest _ found, without))
          (first_or_later _ h.1 id there);
    }))
    are

-- the records with either mark are all
turned : (live : Records) → IsPermutation live (facts_first live)
turned live = search (rules, IsPermutation-filter_both)

module _ (base : List Difference) (live : Records) (ids : List SiteCounter) (possible : HasSchedule base) (dropped : AreDropped base live ids) where
  turns : AreKept base (facts_first live) dropped.refused
  turns = are_kept base _ _ possible dropped.in_turn

  in_turn : (entry : SiteCounter × Record) → Contains live entry → Contains (facts_first live) entry
  in_turn entry there = search (rules, Contains-permutation, turned)

  of_live : (entry : SiteCounter × Record) → Contains (facts_first live) entry → Contains live entry
  of_live entry there = search (rules, Contains-permutation, IsPermutation-sym, turned)

  -- the ids that are dropped are those that are refused of live records
  dropped_id : (entry : SiteCounter × Record) → Contains live entry → Contains dropped.refused entry.0 → Contains ids entry.0
  dropped_id entry there refused =
      subst (λ (all : List SiteCounter). Contains all entry.0) (sym dropped.in_order)
      (kept_by (λ id. is_member same_ids dropped.refused id) _ _ (mapped (λ (e : SiteCounter × Record). e.0) live entry there)
      ((is_member-Decides ids_decide dropped.refused entry.0).1 refused))

  refused_id : (id : SiteCounter) → Contains ids id → Contains dropped.refused id
  refused_id id there =
      let found = from_filter (λ i. is_member same_ids dropped.refused i) _ id
      (subst (λ (all : List SiteCounter). Contains all id) dropped.in_order there) in
      (is_member-Decides ids_decide dropped.refused id).0 found.1

  -- the records that are not dropped
  abbrev left : Records
  left = filter (λ entry. not (is_member same_ids ids entry.0)) live

  left_is : (id : SiteCounter) → Decides (not (is_member same_ids ids id)) (¬ Contains ids id)
  left_is id = Decides-not _ (is_member-Decides ids_decide ids id)

  pub kept_possible : HasSchedule (kept_bounds base live ids)
  kept_possible = fewer_have _ _ (both_among base (bounds_of left) turns.kept turns.begins of_left) turns.possible
    where
      of_left : AreAmong (bounds_of left) turns.kept
      of_left bound there =
          let (entry, found, is) = from_map (λ (e : SiteCounter × Record). e.1.bound) left bound there in
          let (held, stays) = from_filter (λ (e : SiteCounter × Record). not (is_member same_ids ids e.0)) live entry found in
          subst (Contains turns.kept) is (⊎_elim (λ kept. kept) (λ gone. absurd ((left_is _).0 stays (dropped_id entry held gone))) (turns.each entry (in_turn entry held)))

  -- each id is that of one record
  module _ (once : (id : SiteCounter) (one other : Record) → Contains live (id, one) → Contains live (id, other) → one ≡ other) where
    -- a record whose bound is kept is not dropped
    stays : (entry : SiteCounter × Record) → Contains live entry → Contains turns.kept entry.1.bound → Contains ids entry.0 → ⊥
    stays entry there kept gone =
        let (one, found, none) = turns.none entry.0 (refused_id _ gone) in
        let same : one ≡ entry.1 = once entry.0 one entry.1 (of_live _ found) there in
        let last : AreAmong (one.bound ∷ []) turns.kept = λ bound last. ⊎_elim
        (λ is. subst (Contains turns.kept) (ap (λ (r : Record). r.bound) (sym same) ∙ is) kept) (λ nothing. absurd (none_of_nothing bound nothing)) (first_or_later _ [] bound last) in
        none (fewer_have _ _ (both_among turns.kept (one.bound ∷ []) turns.kept (λ bound before. before) last) turns.possible)

    kept_left : AreAmong turns.kept (base ++ bounds_of left)
    kept_left bound there = ⊎_elim
        (λ own. Contains-append_left base _ bound own)
        (λ of_record.
        let (entry, found, is) = of_record in
        let held = of_live entry found in
        Contains-append_right base _ bound
        (subst (Contains (bounds_of left)) is (mapped (λ (e : SiteCounter × Record). e.1.bound) left entry
        (kept_by (λ (e : SiteCounter × Record). not (is_member same_ids ids e.0)) live entry held ((left_is entry.0).1 (stays entry held (subst (Contains turns.kept) (sym is) there)))))))
        (turns.among bound there)

    pub kept_largest : (id : SiteCounter) (one : Record) → Contains live (id, one) → is_member same_ids ids id ≡ true → ¬ HasSchedule (kept_bounds base live ids ++ one.bound ∷ [])
    kept_largest id one there gone has =
        let (other, found, none) = turns.none id (refused_id id ((is_member-Decides ids_decide ids id).0 gone)) in
        let same : other ≡ one = once id other one (of_live (id, other) found) there in
        subst (λ (r : Record). ¬ HasSchedule (turns.kept ++ r.bound ∷ [])) same none
        (fewer_have _ _ (more_among turns.kept (kept_bounds base live ids) one.bound kept_left) has)
