-- Each plan and each state have an answer to each question about events that the plan has.
use Rattle.std.{proofs.{Common.{rules, ◌≡◌, inl, inr, ℕ, ℤ, ◌⊎◌, ◌≤◌, ◌<◌, true, List, [], ◌∷◌, ◌++◌, neg_ℤ, map, Less, refl, sym, ap, ◌∙◌, arith}, lemmas.{Bool.and_parts, Map.Views.{Contains-from_any, list_any-from_Contains}}}, specs.{List.{AllByRecursion, flat_map, Sorted.IsStrictlySortedBy}, Set.is_member, FinMap.{is_sorted, contains_key-keys, Entries.below_all}}}
use Rattle.std.specs.FinMap as fin
use Rattle.stn_net.{specs.{Difference.Difference, Matrix.Tightest.IsTightest, Windows.Window.IsWindow, Ranges.IsRange}, proofs.{WindowEnds.window_of_ends, Ranges.range_of_ends}}
use Rattle.stn_lift.specs.PlanSource.{PlanSource, events_of}
use Rattle.stn_records.{specs.{Id.{SiteCounter, id_cmp, same_ids}, Content.{Content, IdSet, with_ids, replaced_set, is_known}}, proofs.{Entries.{in_order, less_is}, Replaced.with_ids_member}}
use Rattle.stn_conflict.{specs.{declared.links.Link.Link, Arcs.weight_of, Named.IsWay}, proofs.CycleSums.weight_of_way}
use Rattle.stn_site.specs.{Bounds.all_bounds, Report.IsConflictPart}
use Rattle.stn_questions.{specs.{declared.asked.Question.{Question, TheVariants.{Records, Steps, Bounds, Why, WhyApart}}, Answer.{IsAnswer, AsksOfNoEvent}, Records.{AreKnown, record_line}, Steps.steps_text, Bounds.bounds_text, Why.{end_text, IsReasonPart}}, proofs.KnownOnce.{laws, same_is}}
use Rattle.stn_laws.proofs.questions.{Found.{AreFound, possible_found, tightest_found}, Levels.some_way, SomeReport.{IsSoundState, differences, some_conflict}}

-- ---- the known ids
module _ {X : Type 0} where
  all_below : (key : SiteCounter) (entries : List (SiteCounter × X)) → below_all id_cmp key entries ≡ true → AllByRecursion (λ other. id_cmp key other ≡ Less) (map (λ entry. entry.0) entries)
  all_below key [] e = tt
  all_below key (entry ∷ entries) e = let both = and_parts _ _ e in (less_is _ both.0, all_below key entries both.1)

  keys_rise : (entries : List (SiteCounter × X)) → is_sorted id_cmp entries ≡ true → IsStrictlySortedBy id_cmp (map (λ entry. entry.0) entries)
  unfolding IsStrictlySortedBy
  keys_rise [] e = tt
  keys_rise (entry ∷ entries) e = search (rules, all_below, (keys_rise entries))

-- the ids that were added or are replaced, as a set
abbrev known_set : Content → IdSet
known_set state = with_ids (replaced_set state) (fin.keys state.additions)

known_is : (state : Content) (id : SiteCounter) → is_member same_ids (fin.keys (known_set state)) id ≡ is_known state id
known_is state id = cc (contains_key-keys (known_set state) id, with_ids_member _ _ id, contains_key-keys state.additions id)

some_known : (state : Content) → (ids : List SiteCounter) × AreKnown state ids
some_known state = (
  fin.keys (known_set state),
  record {
    order = keys_rise _ (in_order (known_set state));
    known = λ id. (
      (λ there. sym (known_is state id) ∙ list_any-from_Contains laws id _ there),
      (λ known. Contains-from_any same_is id _ (known_is state id ∙ known)),
    );
  },
)

-- ---- reasons
module _ {source : PlanSource} {state : Content} (sound : IsSoundState source state) where
  -- the way from one event to another, and what it weighs
  way_between : (far : ℕ → ℕ → ℤ) (found : AreFound (all_bounds source state) (events_of source) far) (from to : ℕ) → from ≤ events_of source → to ≤ events_of source
      → (links : List Link) × IsWay (all_bounds source state) from to links × (weight_of (all_bounds source state) links ≡ far from to)
  way_between far found from to from_within to_within =
      let (links, way) = some_way found from from_within to to_within in
      let here = tightest_found found from from from_within from_within in
      let there = tightest_found found from to from_within to_within in
      search (rules, weight_of_way)

  some_reason : (from to : ℕ) → from ≤ events_of source → to ≤ events_of source → (AreEnds : List Difference → ℤ → ℤ → Type 0) (heading : ℤ → ℤ → List ℕ) (low high : List ℕ)
      → ((back forth : ℤ) → IsTightest (all_bounds source state) to from back → IsTightest (all_bounds source state) from to forth
      → AreEnds (all_bounds source state) (neg_ℤ back) forth)
      → (text : List ℕ) × (IsReasonPart source state from to AreEnds heading low high text ⊎ IsConflictPart source state text)
  some_reason from to from_within to_within AreEnds heading low high ends_of =
      elim (differences sound) [
        | inr (place, far, first) ↦ (let (text, conflict) = some_conflict sound first in (text, inr conflict))
        | inl (far, found) ↦
            let (back, way_back, holds_back) = way_between far found to from to_within from_within in
            let (forth, way_forth, holds_forth) = way_between far found from to from_within to_within in
            let early = tightest_found found to from to_within from_within in
            let late = tightest_found found from to from_within to_within in (
              heading (neg_ℤ (far to from)) (far from to)
                  ++ (end_text source state low (neg_ℤ (far to from)) back ++ end_text source state high (far from to) forth),
              inl (record {
                possible = possible_found found;
                least = neg_ℤ (far to from);
                greatest = far from to;
                ends = ends_of (far to from) (far from to) early late;
                back = back;
                onward = forth;
                way_back = way_back;
                way_onward = way_forth;
                holds_least = ap neg_ℤ (sym holds_back);
                holds_greatest = sym holds_forth;
                whole = refl;
              }),
            )
      ]

  within_plan : (event : ℕ) → (¬ (events_of source < event)) → event ≤ events_of source
  within_plan event there = search (rules)

  pub some_answer : (question : Question) → (¬ AsksOfNoEvent source question) → (text : List ℕ) × IsAnswer source state question text
  some_answer Records there = (let (ids, known) = some_known state in (flat_map (record_line state) ids, record { ids = ids; known = known; lines = refl }))
  some_answer Steps there = (steps_text source, refl)
  some_answer Bounds there = (bounds_text source state, refl)
  some_answer (Why event) there =
      let none : 0 ≤ events_of source = omega arith in
      some_reason 0 event none (within_plan event there) (λ bounds. IsWindow bounds event) _ _ _ (window_of_ends _ event)
  some_answer (WhyApart from to) there =
      some_reason from to (within_plan from (λ past. there (inl past))) (within_plan to (λ past. there (inr past))) (λ bounds. IsRange bounds from to) _ _ _ (range_of_ends _ from to)
