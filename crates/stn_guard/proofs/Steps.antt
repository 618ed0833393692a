-- The windows as they come on, arc by arc.
use Rattle.std.{proofs.{lemmas.{Grind.common_steps, List.{take-append-drop, take_more, Concat.flat_map-append, Elements.filter-append}}, Common.{arith, rules, ◌≡◌, ℕ, ◌+◌, ◌<◌, Bool, cond, List, [], ◌∷◌, ◌++◌, length, get_or, take, drop, refl, sym, ap, subst, ◌∙◌}}, specs.Prelude.{All, flat_map}}
use Rattle.stn_time.proofs.Each.{All-left, All-right}
use Rattle.stn_net.specs.{Difference.{Difference, NamesEvents}, Schedule.HasSchedule}
use Rattle.stn_conflict.specs.Listing.{ListedBounds}
use Rattle.stn_guard.{specs.{declared.splitting.Arc.Arc, Owners.is_shared, Making.{arcs_of, shared_arcs, AreSplit}, Splitting.{Implies, NamesEnds, CanSplit, Splits}}, proofs.{Owned.{sides_all, shared_parts}, Split.are_left, Made.arcs_implied}}

-- arcs that are split one after the other
pub split_on : (these those : List Arc) (bounds middle split : List Difference) → AreSplit bounds these middle → AreSplit middle those split → AreSplit bounds (these ++ those) split
split_on [] those bounds middle split first second = search rules
split_on (arc ∷ these) those bounds middle split first second = (first.0, first.1, split_on these those first.0 middle split first.2 second)

pub can_front : {these : List Arc} (those : List Arc) {listed : ListedBounds} → CanSplit (these ++ those) listed → CanSplit these listed
can_front {these} those {listed} can = record {
  possible = can.possible;
  implied = All-left (Implies listed.bounds) these those can.implied;
  named = All-left (NamesEnds listed.events) these those can.named;
}

-- once the first arcs are split, the others can be
pub can_behind : {these those : List Arc} {old new : ListedBounds} → CanSplit (these ++ those) old → Splits these old new → CanSplit those new
can_behind {these} {those} {old} {new} can splits =
    let front = can_front those can in
    let left = are_left these splits.split front.possible front.implied in
    record {
      possible = left.possible;
      implied = λ k d below time schedule. All-right (Implies old.bounds) these those can.implied k d below time (left.before time schedule);
      named = rw splits.events (All-right (NamesEnds old.events) these those can.named);
    }

pub splits_on : {these those : List Arc} {old middle new : ListedBounds} → Splits these old middle → Splits those middle new → Splits (these ++ those) old new
splits_on first second = search (rules, split_on)

pub splits_none : {listed : ListedBounds} → Splits [] listed listed
splits_none = record { split = refl; events = refl }

-- the sides of the shared bounds of two lists, and of one bound more
pub arcs_append : (owner : ℕ → ℕ) (these those : List Difference) → shared_arcs owner (these ++ those) ≡ shared_arcs owner these ++ shared_arcs owner those
arcs_append owner these those = search (rules, filter-append, flat_map-append)

pieces : (test : Bool) (bound : Difference) → flat_map arcs_of (cond test (bound ∷ []) []) ≡ cond test (arcs_of bound) []
pieces test bound = search rules

pub arcs_more : (owner : ℕ → ℕ) (bounds : List Difference) {place : ℕ} {bound : Difference} → place < length bounds → bound ≡ get_or bounds place bound
    → shared_arcs owner (take (place + 1) bounds) ≡ shared_arcs owner (take place bounds) ++ shared_arcs owner (bound ∷ [])
arcs_more owner bounds within is = grind (arith, common_steps, take_more)

-- those of one bound
pub arcs_of_one : (owner : ℕ → ℕ) (bound : Difference) {test : Bool} → is_shared owner bound ≡ test → shared_arcs owner (bound ∷ []) ≡ cond test (arcs_of bound) []
arcs_of_one owner bound {test} e = cc (pieces test bound)

-- the next bound's sides can be split
pub can_here : (owner : ℕ → ℕ) (bounds : List Difference) {place : ℕ} {bound : Difference} {old now : ListedBounds} → place < length bounds → bound ≡ get_or bounds place bound
    → CanSplit (shared_arcs owner bounds) old → Splits (shared_arcs owner (take place bounds)) old now → CanSplit (shared_arcs owner (bound ∷ [])) now
can_here owner bounds {place} {bound} {old} {now} within is can splits =
    let done = shared_arcs owner (take place bounds) in
    let here = shared_arcs owner (bound ∷ []) in
    let more = shared_arcs owner (drop (place + 1) bounds) in
    let whole : shared_arcs owner bounds ≡ (done ++ here) ++ more =
    ap (shared_arcs owner) (sym (take-append-drop (place + 1) bounds)) ∙ arcs_append owner (take (place + 1) bounds) (drop (place + 1) bounds)
    ∙ ap (λ front. front ++ more) (arcs_more owner bounds within is) in
    can_behind (can_front more (subst (λ arcs. CanSplit arcs old) whole can)) splits

-- the sides of the shared bounds can be split
pub can_shared : (owner : ℕ → ℕ) {events : ℕ} {bounds : List Difference} → HasSchedule bounds → All (NamesEvents events) bounds
    → CanSplit (shared_arcs owner bounds) (record { events = events; bounds = bounds })
can_shared owner {events} {bounds} possible all_named = record {
  possible = possible;
  implied = arcs_implied owner;
  named = sides_all owner bounds (NamesEnds events) (λ k d h shared.
      let named = all_named k d h in
      let parts = shared_parts owner (get_or bounds k d) shared in (
        record { from_beside = parts.0; from_within = named.from; to_beside = parts.1; to_within = named.to },
        record { from_beside = parts.1; from_within = named.to; to_beside = parts.0; to_within = named.from },
      ));
}
