-- The walk over the records that have become live.
use Rattle.std.{proofs.{Common.{rules, ◌≡◌, Bool, true, not, ◌&&◌, List, [], ◌∷◌, filter, Option, Some, None, is_some, ◌↔◌, refl, sym, subst, All}, lemmas.{Bool.{false≢true, and_parts}, List.Elements.{All-head, All-nil, filter_passes, recursion_from_All}}}, specs.{List.AllByRecursion, Map.Iter.TakesFirst, FinMap.{entries, find, get}}}
use Rattle.stn_records.{specs.{Id.{SiteCounter, id_cmp}, declared.record.Record.Record, Content.{Content, is_live, is_replaced, live_of}, Sorted.without_ids, ContentLaws.{ids_total, ids_exact}}, proofs.{Gets.entries_from_get, Live.found_where_live}}
use Rattle.stn_site.{specs.{Bounds.bounds_of, Growth.{is_risen, risen, KeepsLive}}, proofs.Live.{there_where_live, risen_from_bounds}}
use Rattle.stn_replica.specs.{Walk.from_next, Work.GainsLive}

-- an entry that is taken out is still ahead
pub next_taken : {X : Type 0} {s : List X} (t : List X) (r : Option X) → TakesFirst (λ (entry : X). entry) s r t → from_next r t ≡ s
next_taken t r h = search rules

-- where none was live before, all have become live
pub without_none : (records : List (SiteCounter × Record)) → without_ids {Y = Record} records [] ≡ records
without_none [] = refl
without_none (entry ∷ records) = cc (without_none records)

-- one filter after another
filter_twice : {X : Type 0} (p q both : X → Bool) (xs : List X) → AllByRecursion (λ x. both x ≡ (p x && q x)) xs → filter q (filter p xs) ≡ filter both xs
filter_twice p q both [] h = refl
filter_twice p q both (x ∷ xs) h =
    let rest = filter_twice p q both xs h.1 in
    search rules

-- the records that have become live are the live ones without those that were
pub risen_are : (old new : Content) → without_ids (live_of new) (live_of old) ≡ risen old new
risen_are old new =
    let p : SiteCounter × Record → Bool = λ entry. not (is_replaced new entry.0) in
    let q : SiteCounter × Record → Bool = λ entry. not (is_some (find id_cmp entry.0 (live_of old))) in
    let both : SiteCounter × Record → Bool = λ entry. is_risen old new entry.0 in
    filter_twice p q both (entries new.additions)
    (recursion_from_All (λ entry. both entry ≡ (p entry && q entry)) (entries new.additions)
    (entries_from_get ids_total ids_exact new.additions (λ entry. both entry ≡ (p entry && q entry))
    (λ id r there i. (is_some (there i) && not (is_replaced new id)) && not (sym (found_where_live old id) i))))

-- some record has become live exactly where there is a first
pub gains_first : (old new : Content) (first : Option (SiteCounter × Record)) (rest : List (SiteCounter × Record)) → TakesFirst (λ (entry : SiteCounter × Record). entry) (risen old new) first rest
    → (is_some first ≡ true) ↔ GainsLive old new
gains_first old new (Some e) rest all = (
  λ _. (
    e.0,
    All-head (λ entry. is_risen old new entry.0 ≡ true) e rest
        (subst (All (λ entry. is_risen old new entry.0 ≡ true)) all (filter_passes (λ entry. is_risen old new entry.0) (entries new.additions))),
  ),
  λ _. refl,
)
gains_first old new None rest none = (
  λ e. absurd (false≢true e),
  λ gains.
      let now = (and_parts (is_live new gains.0) (not (is_live old gains.0)) gains.1).0 in
      let there = there_where_live (get new.additions gains.0) (not (is_replaced new gains.0)) now in
      absurd (risen_from_bounds (λ _. ⊥) old new (subst (λ records. All (λ _. ⊥) (bounds_of records)) (sym none.0) (All-nil (λ _. ⊥))) gains.0 there.0 there.1 gains.1),
)

-- each live record still is exactly where none has become live on the way back
pub keeps_where_none_back : (old new : Content) {back : Bool} → (back ≡ true) ↔ GainsLive new old → (not back ≡ true) ↔ KeepsLive old new
keeps_where_none_back old new told = search rules
