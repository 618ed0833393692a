-- The known ids, each once and in order.
use Rattle.std.{proofs.{Common.{rules, ◌≡◌, Bool, true, ◌&&◌, ◌||◌, eqb, List, ◌++◌, refl, sym, ap, subst, ◌∙◌}, lemmas.{List.{Sorted.{Contains-permutation, IsPermutation-sym}, Kept.{Contains-dedup, Contains-from_dedup, IsStrictlySortedBy-dedup}}, Map.Views.{Contains-from_any, list_any-from_Contains}}, Math.Bool.{or_assoc, or_comm}}, specs.{Cmp.{IsEquivalence, eq_by_cmp_equiv}, List.{Contains, dedup, Sorted.{IsPermutation, IsSorted, IsStrictlySortedBy}}, Set.is_member, FinMap.contains_key-keys}}
use Rattle.stn_records.{specs.{Id.{SiteCounter, id_cmp}, Content.{Content, is_known, same_ids}, ContentLaws.{ids_total}}, proofs.{KnownIds.member-append, Replaced.with_ids_member}}
use Rattle.std.specs.FinMap as fin
use Rattle.stn_questions.specs.Records.{AreKnown}

pub laws : IsEquivalence same_ids
laws = eq_by_cmp_equiv ids_total

pub same_is : (a b : SiteCounter) → same_ids a b ≡ true → a ≡ b
same_is a b e = search rules

-- the test of two ids by their numbers
abbrev pub same_numbers : SiteCounter → SiteCounter → Bool
same_numbers a b = eqb a.site b.site && eqb a.counter b.counter

ties : (a b : SiteCounter) → same_numbers a b ≡ same_ids a b
ties a b = search rules

-- the ids that were added, then those that were withdrawn, then those that records replace
abbrev pub listed_ids : Content → List SiteCounter
listed_ids state = (fin.keys state.additions ++ fin.keys state.tombstones) ++ fin.values state.replacements

-- they are the known ones
listed_member : (state : Content) (id : SiteCounter) → is_member same_ids (listed_ids state) id ≡ is_known state id
listed_member state id =
    member-append (fin.keys state.additions ++ fin.keys state.tombstones) (fin.values state.replacements) id
    ∙ ap (λ b. b || is_member same_ids (fin.values state.replacements) id)
    (member-append (fin.keys state.additions) (fin.keys state.tombstones) id
    ∙ (λ i. sym (contains_key-keys state.additions id) i || sym (contains_key-keys state.tombstones id) i))
    ∙ or_assoc (fin.contains_key state.additions id) (fin.contains_key state.tombstones id) (is_member same_ids (fin.values state.replacements) id)
    ∙ ap (λ b. fin.contains_key state.additions id || b)
    (or_comm (fin.contains_key state.tombstones id) (is_member same_ids (fin.values state.replacements) id) ∙ sym (with_ids_member state.tombstones (fin.values state.replacements) id))

-- the ids that were listed, sorted, each once
pub known_once : (state : Content) (listed sorted ids : List SiteCounter) → listed ≡ listed_ids state → IsPermutation listed sorted → IsSorted id_cmp sorted
    → ids ≡ dedup same_numbers sorted → AreKnown state ids
known_once state listed sorted ids all moved in_order is =
    let once : ids ≡ dedup same_ids sorted = is ∙ (λ i. dedup (λ a b. ties a b i) sorted) in
    record {
      order = subst (IsStrictlySortedBy id_cmp) (sym once) (IsStrictlySortedBy-dedup ids_total (λ a b. refl) sorted in_order);
      known = λ id. (
        (λ there.
            let before = Contains-permutation sorted listed id (IsPermutation-sym listed sorted moved)
            (Contains-from_dedup same_ids sorted id (subst (λ (xs : List SiteCounter). Contains xs id) once there)) in
            sym (listed_member state id) ∙ list_any-from_Contains laws id (listed_ids state) (subst (λ (xs : List SiteCounter). Contains xs id) all before)),
        (λ known.
            let there = Contains-from_any same_is id (listed_ids state) (listed_member state id ∙ known) in
            let moved_there = Contains-permutation listed sorted id moved (subst (λ (xs : List SiteCounter). Contains xs id) (sym all) there) in
            subst (λ (xs : List SiteCounter). Contains xs id) (sym once) (Contains-dedup laws same_is sorted id moved_there)),
      );
    }
