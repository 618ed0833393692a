-- The earliest and the latest times of a plan's events, and the soonest of those that are left.
use Rattle.std.specs.Prelude.{ℕ, ℤ, ◌≤◌, ◌≤ℤ◌, Bool, List}
use Rattle.stn_net.specs.{Difference.Difference, Schedule.IsSchedule, Windows.{Window.IsInWindow, Dispatch.{IsLeft, LeavesNoneBefore}}}

-- each of so many events takes its time in some schedule, and comes no earlier in any
pub record AreEarliest (bounds : List Difference) (events : ℕ) (times : ℕ → ℤ) : Type 0 where
  pub taken : (event : ℕ) → event ≤ events → IsInWindow bounds event (times event)
  pub least : (others : ℕ → ℤ) → IsSchedule bounds others → (event : ℕ) → event ≤ events → times event ≤ℤ others event

-- each of so many events takes its time in some schedule, and comes no later in any
pub record AreLatest (bounds : List Difference) (events : ℕ) (times : ℕ → ℤ) : Type 0 where
  pub taken : (event : ℕ) → event ≤ events → IsInWindow bounds event (times event)
  pub most : (others : ℕ → ℤ) → IsSchedule bounds others → (event : ℕ) → event ≤ events → others event ≤ℤ times event

-- the soonest times from now on: a schedule in which no event that is left comes before now, and in any other such schedule each event that
-- is left comes no earlier
pub record AreSoonest (bounds : List Difference) (done : List Bool) (now : ℤ) (times : ℕ → ℤ) : Type 0 where
  pub schedule : IsSchedule bounds times
  pub waits : LeavesNoneBefore done times now
  pub least : (others : ℕ → ℤ) → IsSchedule bounds others → LeavesNoneBefore done others now → (event : ℕ) → IsLeft done event → times event ≤ℤ others event
