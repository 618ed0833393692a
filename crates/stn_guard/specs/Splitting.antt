-- For proofs alone: no public clause cites these words.
use Rattle.std.specs.{Prelude.{◌≡◌, ◌≢◌, ℕ, ◌<◌, ◌≤◌, ℤ, ◌+ℤ◌, ◌-ℤ◌, ◌≤ℤ◌, Bool, false, ◌&&◌, if◌then◌else◌, List, [], ◌∷◌, length, map, filter, slice_index_or, All}, List.range_with_len}
use Rattle.stn_net.specs.{Difference.Difference, Schedule.{IsSchedule, HasSchedule}, Windows.Window.IsWindow}
use Rattle.stn_conflict.specs.Listing.{ListedBounds}
use Rattle.stn_guard.specs.{declared.splitting.Arc.Arc, Making.{AreSplit, says_more, window_bound}}

-- both events of the bound have an owner
pub record HasOwners (owners : List ℕ) (bound : Difference) : Type 0 where
  pub from : bound.from < length owners
  pub to : bound.to < length owners

-- both events of the arc are among so many beside the origin
pub record NamesEnds (events : ℕ) (arc : Arc) : Type 0 where
  pub from_beside : arc.from ≢ 0
  pub from_within : arc.from ≤ events
  pub to_beside : arc.to ≢ 0
  pub to_within : arc.to ≤ events

-- by this time `to` may come and leave both events a time in their windows, with `from` no earlier than `weight` before it
pub record LeavesTime (arc : Arc) (from to : ℤ × ℤ) (time : ℤ) : Type 0 where
  pub to_first : to.0 ≤ℤ time
  pub to_last : time ≤ℤ to.1
  pub from_first : (from.0 +ℤ arc.weight) ≤ℤ time
  pub from_last : time ≤ℤ (from.1 +ℤ arc.weight)

-- the times meet the arc
abbrev pub MeetsArc : (ℕ → ℤ) → Arc → Type 0
MeetsArc time arc = (time arc.to -ℤ time arc.from) ≤ℤ arc.weight

-- every schedule of the bounds meets the arc
abbrev pub Implies : List Difference → Arc → Type 0
Implies bounds arc = (time : ℕ → ℤ) → IsSchedule bounds time → MeetsArc time arc

-- the bounds have a schedule and imply the arcs, which are about their events
pub record CanSplit (arcs : List Arc) (listed : ListedBounds) : Type 0 where
  pub possible : HasSchedule listed.bounds
  pub implied : All (Implies listed.bounds) arcs
  pub named : All (NamesEnds listed.events) arcs

-- the bounds are the old ones and what splits the arcs
pub record Splits (arcs : List Arc) (old new : ListedBounds) : Type 0 where
  pub split : AreSplit old.bounds arcs new.bounds
  pub events : new.events ≡ old.events

-- the event of the window is named, and it says more than the horizon
abbrev pub is_kept : List Bool → Difference → Bool
is_kept named window = slice_index_or named window.to false && says_more window

-- the window where that is so
abbrev pub kept : List Bool → Difference → List Difference
kept named window = if is_kept named window then window ∷ [] else []

-- those of so many events
abbrev pub windows_of : List Bool → (ℕ → ℤ × ℤ) → ℕ → List Difference
windows_of named ends events = filter (is_kept named) (map (λ event. window_bound event (ends event)) (range_with_len 1 events))

-- those of the events that are named
pub record AreNamedWindows (listed : ListedBounds) (named : List Bool) (found : List Difference) : Type 0 where
  pub ends : ℕ → ℤ × ℤ
  pub true_ends : (event : ℕ) → event ≤ listed.events → IsWindow listed.bounds event (ends event).0 (ends event).1
  pub found_are : found ≡ windows_of named ends listed.events
