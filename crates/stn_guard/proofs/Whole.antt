-- The windows once all shared bounds were split are the guard.
use Rattle.std.{proofs.{Common.{rules, ◌≡◌, ℕ, replicate, ◌+◌, ◌<◌, ℤ, Bool, false, ◌&&◌, ◌||◌, List, [], ◌∷◌, ◌++◌, length, get_or, map, refl, sym, ap, subst, ◌∙◌, arith}, lemmas.List.{Folds.list_any-append, Elements.{All-head, All-tail}}}, specs.{Prelude.{All, filter}, List.range_with_len}}
use Rattle.stn_site.proofs.Flags.{get_or-replicate_same}
use Rattle.stn_net.specs.{Difference.{Difference, NamesEvents}, Schedule.HasSchedule}
use Rattle.stn_conflict.specs.Listing.{ListedBounds}
use Rattle.stn_guard.{specs.{declared.splitting.Arc.Arc, Making.{shared_arcs, window_bound, names_event, says_more, AreSplit, IsGuardOf}, Splitting.{AreNamedWindows, HasOwners, CanSplit, Splits, is_kept, windows_of}}, proofs.{Ranges.all_in_range, Split.are_left, Steps.{can_behind, can_front, splits_on, can_shared, arcs_append}}}

-- tests that agree on the elements of a list keep the same ones
pub filter_same : {X : Type 0} (p q : X → Bool) (xs : List X) → All (λ x. p x ≡ q x) xs → filter p xs ≡ filter q xs
filter_same p q [] same = refl
filter_same p q (x ∷ xs) same = cc (All-head (λ y. p y ≡ q y) x xs same, filter_same p q xs (All-tail (λ y. p y ≡ q y) x xs same))

-- these are the events that a shared bound names
abbrev pub AreNamed : (ℕ → ℕ) → List Difference → List Bool → Type 0
AreNamed owner bounds named = (event : ℕ) → event < length named → get_or named event false ≡ names_event owner bounds event

pub named_both : (owner : ℕ → ℕ) (base extra : List Difference) (first second : List Bool) → length second ≡ length first → AreNamed owner base first
    → ((event : ℕ) → event < length first → get_or second event false ≡ (get_or first event false || names_event owner extra event)) → AreNamed owner (base ++ extra) second
named_both owner base extra first second long these more = search (rules, list_any-append)

pub windows_named : (owner : ℕ → ℕ) (bounds : List Difference) (named : List Bool) (ends : ℕ → ℤ × ℤ) (events : ℕ) → length named ≡ events + 1 → AreNamed owner bounds named
    → windows_of named ends events ≡ filter (λ bound. names_event owner bounds bound.to && says_more bound) (map (λ event. window_bound event (ends event)) (range_with_len 1 events))
windows_named owner bounds named ends events long are =
    filter_same (is_kept named) (λ bound. names_event owner bounds bound.to && says_more bound) (map at (range_with_len 1 events))
    (all_in_range at events (λ bound. is_kept named bound ≡ (names_event owner bounds bound.to && says_more bound)) (λ event after most. ap (λ t. t && says_more (at event)) (are event (omega (arith, long)))))
  where
    at : ℕ → Difference
    at event = window_bound event (ends event)

pub whole_guard : {owner : ℕ → ℕ} {events : ℕ} (base extra : List Difference) {middle new : ListedBounds} {named : List Bool} {guard : List Difference}
    → Splits (shared_arcs owner base) (record { events = events; bounds = base ++ extra }) middle → Splits (shared_arcs owner extra) middle new
    → length named ≡ new.events + 1 → AreNamed owner (base ++ extra) named → AreNamedWindows new named guard → IsGuardOf owner events (base ++ extra) guard
whole_guard {owner} {events} base extra {middle} {new} {named} {guard} first second long are found =
    let splits = splits_on first second in
    subst (λ n. IsGuardOf owner n (base ++ extra) guard) splits.events (record {
      split = new.bounds;
      are_split = subst (λ arcs. AreSplit (base ++ extra) arcs new.bounds) (sym (arcs_append owner base extra)) splits.split;
      windows = record {
        ends = found.ends;
        true_ends = found.true_ends;
        windows_are = found.found_are ∙ windows_named owner (base ++ extra) named found.ends new.events long are;
      };
    })

-- each bound of a part has owners
pub owned : {owners : List ℕ} {events : ℕ} (bounds : List Difference) → length owners ≡ events + 1 → All (NamesEvents events) bounds → All (HasOwners owners) bounds
owned bounds long named = search rules

-- the sides of both parts can be split
can_both : (owner : ℕ → ℕ) {events : ℕ} (base extra : List Difference) → HasSchedule (base ++ extra) → All (NamesEvents events) (base ++ extra)
    → CanSplit (shared_arcs owner base ++ shared_arcs owner extra) (record { events = events; bounds = base ++ extra })
can_both owner {events} base extra possible named =
    subst (λ arcs. CanSplit arcs (record { events = events; bounds = base ++ extra })) (arcs_append owner base extra) (can_shared owner possible named)

pub can_first : (owner : ℕ → ℕ) {events : ℕ} (base extra : List Difference) → HasSchedule (base ++ extra) → All (NamesEvents events) (base ++ extra)
    → CanSplit (shared_arcs owner base) (record { events = events; bounds = base ++ extra })
can_first owner {events} base extra possible named = can_front (shared_arcs owner extra) (can_both owner base extra possible named)

pub can_second : (owner : ℕ → ℕ) {events : ℕ} (base extra : List Difference) {new : ListedBounds} → HasSchedule (base ++ extra) → All (NamesEvents events) (base ++ extra)
    → Splits (shared_arcs owner base) (record { events = events; bounds = base ++ extra }) new → CanSplit (shared_arcs owner extra) new
can_second owner base extra possible named splits = search (rules, can_behind, can_both)

-- once arcs were split, there is a schedule still
pub still_possible : {arcs : List Arc} {old new : ListedBounds} → CanSplit arcs old → Splits arcs old new → HasSchedule new.bounds
still_possible can splits = search (rules, are_left)

-- what is noted of both parts, in a list that was false
pub noted : (owner : ℕ → ℕ) (base extra : List Difference) (n : ℕ) {items none first again second last : List Bool} → items ≡ replicate n false → none ≡ items
    → length first ≡ length none → ((event : ℕ) → event < length none → get_or first event false ≡ (get_or none event false || names_event owner base event))
    → again ≡ first
    → length second ≡ length again → ((event : ℕ) → event < length again → get_or second event false ≡ (get_or again event false || names_event owner extra event))
    → last ≡ second → AreNamed owner (base ++ extra) last
noted owner base extra n filled is long these same still those end = search (rules, get_or-replicate_same, named_both)
