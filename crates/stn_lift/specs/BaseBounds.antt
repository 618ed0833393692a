-- The bounds that a plan sets itself.
use Rattle.std.specs.{Prelude.{◌≡◌, ℕ, zero, suc, ◌+◌, ◌*◌, ◌/◌, ◌≤◌, ◌<◌, ◌≢◌, ℤ, pos, ◌+ℤ◌, ◌<ℤ◌, Bool, true, not, ◌&&◌, ◌==◌, nat_lt, if◌then◌else◌, List, [], ◌∷◌, ◌++◌, length, map, slice_index_or}, declared.cmp.Ordering.{Ordering, TheVariants.{Less, Equal, Greater}}, Ordering.int_cmp}
use Rattle.stn_time.specs.Time.{horizon}
use Rattle.stn_net.specs.{Difference.Difference, Horizon.horizon_bounds, Schedule.{times_of, IsSchedule}}
use Rattle.stn_lift.specs.{Footprints.{GroundAtom, Footprint, no_footprint, is_same_atom, interfere}, Activities.Activity}

-- the step of an event, counted from 1
abbrev pub step_of : ℕ → ℕ
step_of event = (event + 1) / 2

-- the step after so many others lasts so long
abbrev pub duration_bound : ℕ → ℤ → Difference
duration_bound before duration = record { from = 2 * before + 1; to = 2 * before + 2; lo = duration; hi = duration }

-- the one event comes before the other, by 1 ms or more
abbrev pub before : ℕ → ℕ → Difference
before one other = record { from = one; to = other; lo = pos 1; hi = horizon }

-- both events come at one time
abbrev pub together : ℕ → ℕ → Difference
together one other = record { from = one; to = other; lo = pos 0; hi = pos 0 }

-- two events, the first planned before, with or after the second, stay so
abbrev pub order_bound : ℕ → ℕ → Ordering → Difference
order_bound one other Less = before one other
order_bound one other Equal = together one other
order_bound one other Greater = before other one

-- given which events interfere, and the planned time of each
module _ (interferes : ℕ → ℕ → Bool) (time : ℕ → ℤ) where
  -- an event and a later number: where they are of different steps and interfere, their order
  abbrev pub pair_order : ℕ → ℕ → List Difference
  pair_order one other =
      if nat_lt one other && (not (step_of one == step_of other) && interferes one other) then order_bound one other (int_cmp (time one) (time other)) ∷ [] else []

  -- the orders of one event with each of so many events
  unfoldable pub event_orders : ℕ → ℕ → List Difference
  event_orders one zero = []
  event_orders one (suc events) = event_orders one events ++ pair_order one (suc events)

  -- the orders of each of the first events with each of so many
  unfoldable pub orders : ℕ → ℕ → List Difference
  orders events zero = []
  orders events (suc one) = orders events one ++ event_orders (suc one) events

-- the bounds of the durations of so many steps
unfoldable pub duration_bounds : (ℕ → ℤ) → ℕ → List Difference
duration_bounds duration zero = []
duration_bounds duration (suc before) = duration_bounds duration before ++ duration_bound before (duration before) ∷ []

-- the times of the events of steps, the start and the end of each in turn
unfoldable pub times_behind : List Activity → List ℤ
times_behind [] = []
times_behind (step ∷ steps) = step.time ∷ (step.time +ℤ step.duration) ∷ times_behind steps

-- the planned times of all events by number, the origin's first
abbrev pub event_times : List Activity → List ℤ
event_times steps = pos 0 ∷ times_behind steps

-- what the events of steps need, add and delete
unfoldable pub footprints_behind : List Activity → List (Footprint GroundAtom)
footprints_behind [] = []
footprints_behind (step ∷ steps) = step.start ∷ step.end ∷ footprints_behind steps

-- the same of all events by number, the origin's first
abbrev pub event_footprints : List Activity → List (Footprint GroundAtom)
event_footprints steps = no_footprint ∷ footprints_behind steps

-- how long the step after so many others lasts
abbrev pub duration_of : List Activity → ℕ → ℤ
duration_of steps before = slice_index_or (map (λ step. step.duration) steps) before (pos 0)

abbrev pub footprint_of : List Activity → ℕ → Footprint GroundAtom
footprint_of steps event = slice_index_or (event_footprints steps) event no_footprint

-- the two events of these numbers interfere
abbrev pub events_interfere : List Activity → ℕ → ℕ → Bool
events_interfere steps one other = interfere is_same_atom (footprint_of steps one) (footprint_of steps other)

-- the bounds in their order: the horizon of each event, the duration of each step, and the order of each pair of events of
-- different steps that interfere
abbrev pub lifted_bounds : List Activity → List Difference
lifted_bounds steps =
    let events = 2 * length steps in
    (horizon_bounds events ++ duration_bounds (duration_of steps) (length steps))
    ++ orders (events_interfere steps) (times_of (event_times steps)) events events

-- one and other are events of different steps that interfere, the first with the smaller number
pub record IsOrderedPair (events : ℕ) (interferes : ℕ → ℕ → Bool) (one other : ℕ) : Type 0 where
  pub first : 0 < one
  pub later : one < other
  pub last : other ≤ events
  pub steps : step_of one ≢ step_of other
  pub share : interferes one other ≡ true

-- in every schedule of the bounds two such events keep the order of their planned times, and stay together where these are equal
pub record KeepsOrder (events : ℕ) (interferes : ℕ → ℕ → Bool) (planned : ℕ → ℤ) (bounds : List Difference) : Type 0 where
  pub before : (time : ℕ → ℤ) (one other : ℕ) → IsSchedule bounds time → IsOrderedPair events interferes one other
      → planned one <ℤ planned other → time one <ℤ time other
  pub after : (time : ℕ → ℤ) (one other : ℕ) → IsSchedule bounds time → IsOrderedPair events interferes one other
      → planned other <ℤ planned one → time other <ℤ time one
  pub together : (time : ℕ → ℤ) (one other : ℕ) → IsSchedule bounds time → IsOrderedPair events interferes one other
      → planned one ≡ planned other → time one ≡ time other
