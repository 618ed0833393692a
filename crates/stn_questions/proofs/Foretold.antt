-- What the searches of a plan's bounds find of the events that are left.
use Rattle.std.{proofs.{Common.{rules, ◌≡◌, ℕ, ℤ, ◌+◌, ◌<◌, ◌≤◌, ◌≤ℤ◌, ◌<ℤ◌, Bool, true, List, [], ◌++◌, length, Option, Some, None, arith}, lemmas.{Int.ints, List.Elements.All-append}}, specs.Prelude.{Vec, All, Result, IfOk, MatchOption, is_some}}
use Rattle.stn_net.{specs.{Event.most_events, Difference.{Difference, NamesEvents}, Schedule.{HasSchedule, times_of}, Windows.{Dispatch.{IsLeft, IsReady, CanWaitUntil}, Leading.IsLeastLatest, Soonest.{AreEarliest, AreLatest, AreSoonest}}}, proofs.Readiness.left_within}
use Rattle.stn_lift.specs.PlanSource.{PlanSource, base_bounds, events_of, IsSoundSource}
use Rattle.stn_records.specs.Content.{Content}
use Rattle.stn_site.specs.Bounds.{all_bounds, live_bounds}
use Rattle.stn_questions.specs.{Foresight.AreSoonestOf, Ready.AreReadyEvents}

-- the soonest times by the bounds that were searched are those of the plan's
pub soonest_found : {A E : Type 0} (bounds all : List Difference) (events count : ℕ) (done : List Bool) (now : ℤ) (result : Result (Option (Vec ℤ A)) E) → bounds ≡ all → events ≡ count → events ≤ most_events
    → IfOk result (λ found. MatchOption found (¬ CanWaitUntil bounds done now) (λ times. (length times.items ≡ events + 1) × AreSoonest bounds done now (times_of times.items)))
    → IfOk result (λ found. MatchOption found (¬ CanWaitUntil all done now) (λ times. AreSoonestOf all count done now times.items))
soonest_found bounds all events count done now result same many few none = search rules

-- what is there where the other case can't be
pub there_unless : {X : Type 0} (found : Option X) (None_holds : Type 0) (Some_holds : X → Type 0) → MatchOption found None_holds Some_holds → ¬ None_holds → is_some found ≡ true
there_unless found none some holds never = search rules

-- all bounds name the plan's events
pub all_named : (source : PlanSource) (state : Content) → IsSoundSource source → All (NamesEvents (events_of source)) (live_bounds state)
    → All (NamesEvents (events_of source)) (all_bounds source state)
all_named source state sound live = search (rules, All-append)

-- where nothing is ready from now on, no event stands in the list
pub none_ready : (bounds : List Difference) (done : List Bool) (now : ℤ) → ((event : ℕ) (time : ℤ) → now ≤ℤ time → ¬ IsReady bounds done event time) → AreReadyEvents bounds done now []
none_ready bounds done now none = search rules

-- after the least latest time of the events that are left nothing is
pub none_after_last : (bounds : List Difference) (events : ℕ) (done : List Bool) (latest : ℕ → ℤ) (now last : ℤ) → AreLatest bounds events latest → length done ≡ events + 1
    → IsLeastLatest latest done last → last <ℤ now → (event : ℕ) (time : ℤ) → now ≤ℤ time → ¬ IsReady bounds done event time
none_after_last bounds events done latest now last are one_each least past event time later ready =
    let (times, schedule, at, waits) = ready.possible in
    let (late, left, at_last) = least.at in
    let before = waits late left in
    let most = are.most times schedule late (omega (arith, one_each, left_within done late left)) in
    omega (arith, ints)

-- the least latest time of the events with numbers below the limit that are left
pub record IsLeastBelow (latest : ℕ → ℤ) (done : List Bool) (limit : ℕ) (time : ℤ) : Type 0 where
  pub at : (event : ℕ) × IsLeft done event × (latest event ≡ time)
  pub least : (event : ℕ) → event < limit → IsLeft done event → time ≤ℤ latest event

-- the same, where there is such an event
abbrev pub IsLeastSoFar : (ℕ → ℤ) → List Bool → ℕ → Option ℤ → Type 0
IsLeastSoFar latest done limit None = (event : ℕ) → event < limit → ¬ IsLeft done event
IsLeastSoFar latest done limit (Some time) = IsLeastBelow latest done limit time

-- the times by the bounds that were searched are those of the plan's bounds
module _ {A : Type 0} (bounds all : List Difference) (events count : ℕ) (found : Option (Vec ℤ A × Vec ℤ A)) (both : Vec ℤ A × Vec ℤ A) (same : bounds ≡ all) (many : events ≡ count) (is : found ≡ Some both) where
  pub found_earliest : MatchOption found (¬ HasSchedule bounds) (λ times. (length times.0.items ≡ events + 1) × AreEarliest bounds events (times_of times.0.items))
      → (length both.0.items ≡ count + 1) × AreEarliest all count (times_of both.0.items)
  found_earliest told = search rules

  pub found_latest : MatchOption found (¬ HasSchedule bounds) (λ times. (length times.1.items ≡ events + 1) × AreLatest bounds events (times_of times.1.items))
      → (length both.1.items ≡ count + 1) × AreLatest all count (times_of both.1.items)
  found_latest told = search rules

pub found_soonest : {A : Type 0} (bounds all : List Difference) (events count : ℕ) (found : Option (Vec ℤ A)) (times : Vec ℤ A) (same : bounds ≡ all) (many : events ≡ count) (is : found ≡ Some times)
    (done : List Bool) (now : ℤ)
    → MatchOption found (¬ CanWaitUntil bounds done now) (λ found_times. (length found_times.items ≡ events + 1) × AreSoonest bounds done now (times_of found_times.items))
    → (length times.items ≡ count + 1) × AreSoonest all done now (times_of times.items)
found_soonest bounds all events count found times same many is done now told = search rules

-- bounds and live records' bounds, one after the other
pub all_in : (source : PlanSource) (state : Content) (front back live : List Difference) → front ≡ base_bounds source → back ≡ live → live ≡ live_bounds state → front ++ back ≡ all_bounds source state
all_in source state front back live own behind is = cc
