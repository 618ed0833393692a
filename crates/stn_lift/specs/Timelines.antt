-- For proofs alone: no public clause cites these words.
-- What the code keeps of the steps of a plan.
use Rattle.std.specs.{Prelude.{◌≡◌, ℕ, ◌+◌, ◌*◌, ◌++◌, ℤ, pos, ◌+ℤ◌, ◌≤ℤ◌, ◌≤◌, nat_eq, Bool, List, map, length, slice_index_or}, List.AllZip}
use Rattle.stn_time.specs.Time.{horizon}
use Rattle.stn_net.specs.{Event.most_steps, Difference.Difference, Horizon.horizon_bounds, Schedule.times_of}
use Rattle.stn_lift.specs.{Footprints.{Footprint, no_footprint, interfere}, Numbering.{Numbering, IsUnambiguous, IsNumbered}, Activities.Activity, BaseBounds.{event_times, event_footprints, events_interfere, duration_bounds, orders}}

-- a step lies within the horizon
pub record IsTimed (step : Activity) : Type 0 where
  pub time : pos 0 ≤ℤ step.time
  pub duration : pos 0 ≤ℤ step.duration
  pub last : (step.time +ℤ step.duration) ≤ℤ horizon

-- these are the steps' durations, and the times and the footprints of their events, in numbers
pub record IsTimeline (numbering : Numbering) (steps : List Activity) (durations times : List ℤ) (footprints : List (Footprint ℕ)) : Type 0 where
  pub unambiguous : IsUnambiguous numbering
  pub lasting : durations ≡ map (λ step. step.duration) steps
  pub timed : times ≡ event_times steps
  pub numbered : AllZip (IsNumbered numbering) footprints (event_footprints steps)

-- the footprint of an event, in numbers
abbrev pub numbers_at : List (Footprint ℕ) → ℕ → Footprint ℕ
numbers_at footprints event = slice_index_or footprints event no_footprint

-- two events interfere, by their numbers
abbrev pub interfere_by_number : List (Footprint ℕ) → ℕ → ℕ → Bool
interfere_by_number footprints one other = interfere nat_eq (numbers_at footprints one) (numbers_at footprints other)

-- the same once all steps are taken up: events interfere as their atoms do
pub record IsLifted (steps : List Activity) (durations times : List ℤ) (footprints : List (Footprint ℕ)) : Type 0 where
  pub lasting : durations ≡ map (λ step. step.duration) steps
  pub timed : times ≡ event_times steps
  pub many_times : length times ≡ 2 * length durations + 1
  pub many_footprints : length footprints ≡ 2 * length durations + 1
  pub interfering : (one other : ℕ) → interfere_by_number footprints one other ≡ events_interfere steps one other

-- there are at most so many steps as a plan may have, and a time and a footprint for the origin and for each of their events
pub record IsWholeTimeline (durations times : List ℤ) (footprints : List (Footprint ℕ)) : Type 0 where
  pub few : length durations ≤ most_steps
  pub many_times : length times ≡ 2 * length durations + 1
  pub many_footprints : length footprints ≡ 2 * length durations + 1

-- the bounds of a plan, from these
abbrev pub numbered_bounds : List ℤ → List ℤ → List (Footprint ℕ) → List Difference
numbered_bounds durations times footprints =
    let events = 2 * length durations in
    (horizon_bounds events ++ duration_bounds (λ before. slice_index_or durations before (pos 0)) (length durations))
    ++ orders (interfere_by_number footprints) (times_of times) events events
