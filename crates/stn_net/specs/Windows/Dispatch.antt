-- Which event of a plan may run next, and when. A list of flags says which events are done, the origin's first.
use Rattle.std.specs.Prelude.{◌≡◌, ℕ, ℤ, ◌<◌, ◌≤◌, ◌≤ℤ◌, ◌↔◌, Bool, true, false, List, Option, Some, None, slice_index_or}
use Rattle.stn_net.specs.{Difference.Difference, Schedule.IsSchedule, Windows.Window.IsInWindow, declared.windows.answers.Next.{Next, TheVariants.{Run, AllDone, Overdue}}}

-- the event is left: it is one of the list beside the origin, and is not done
abbrev pub IsLeft : List Bool → ℕ → Type 0
IsLeft done event = (0 < event) × (slice_index_or done event true ≡ false)

-- no event that is left comes before the time
abbrev pub LeavesNoneBefore : List Bool → (ℕ → ℤ) → ℤ → Type 0
LeavesNoneBefore done times time = (event : ℕ) → IsLeft done event → time ≤ℤ times event

-- the event may run at the time: it is left, and in some schedule it takes that time and no event that is left comes before
pub record IsReady (bounds : List Difference) (done : List Bool) (event : ℕ) (time : ℤ) : Type 0 where
  pub left : IsLeft done event
  pub possible : (times : ℕ → ℤ) × IsSchedule bounds times × (times event ≡ time) × LeavesNoneBefore done times time

-- the times from now on at which the event may run are those from the first of the two to the last, both included; none, where there is
-- no such time
abbrev pub AreReadyTimes : List Difference → List Bool → ℤ → ℕ → Option (ℤ × ℤ) → Type 0
AreReadyTimes bounds done now event None = (time : ℤ) → now ≤ℤ time → ¬ IsReady bounds done event time
AreReadyTimes bounds done now event (Some ends) =
    (ends.0 ≤ℤ ends.1) × ((time : ℤ) → (((now ≤ℤ time) × IsReady bounds done event time) ↔ ((ends.0 ≤ℤ time) × (time ≤ℤ ends.1))))

-- the time is no later than the other, and where both are equal, the event's number is no greater than the other's
abbrev pub ComesFirst : ℤ → ℕ → ℤ → ℕ → Type 0
ComesFirst time event other_time other = (time ≤ℤ other_time) × (time ≡ other_time → event ≤ other)

-- the event may run at the time, which lies from now on, and no other event and time from now on come before these
pub record IsFirstReady (bounds : List Difference) (done : List Bool) (now time : ℤ) (event : ℕ) : Type 0 where
  pub ready : IsReady bounds done event time
  pub later : now ≤ℤ time
  pub first : (other_time : ℤ) (other : ℕ) → now ≤ℤ other_time → IsReady bounds done other other_time → ComesFirst time event other_time other

-- the event takes some time from now on in some schedule
abbrev pub HasTimeFrom : List Difference → ℤ → ℕ → Type 0
HasTimeFrom bounds now event = (time : ℤ) × (now ≤ℤ time) × IsInWindow bounds event time

-- no event may run at any time from now on, and this is the least of those that are left and take no time from now on
pub record IsOverdue (bounds : List Difference) (done : List Bool) (now : ℤ) (event : ℕ) : Type 0 where
  pub none : (time : ℤ) (other : ℕ) → now ≤ℤ time → ¬ IsReady bounds done other time
  pub left : IsLeft done event
  pub past : ¬ HasTimeFrom bounds now event
  pub least : (other : ℕ) → IsLeft done other → ¬ HasTimeFrom bounds now other → event ≤ other

-- what comes next from now on: the first event that may run, with its time; nothing, where no event is left; or an overdue event
abbrev pub IsNext : List Difference → List Bool → ℤ → Next → Type 0
IsNext bounds done now (Run time event) = IsFirstReady bounds done now time event
IsNext bounds done now AllDone = (event : ℕ) → ¬ IsLeft done event
IsNext bounds done now (Overdue event) = IsOverdue bounds done now event

-- the event that the answer names is left, and where it names none, none is
abbrev pub NamesLeft : List Bool → Next → Type 0
NamesLeft done (Run time event) = IsLeft done event
NamesLeft done AllDone = (event : ℕ) → ¬ IsLeft done event
NamesLeft done (Overdue event) = IsLeft done event

-- in some schedule no event that is left comes before now
abbrev pub CanWaitUntil : List Difference → List Bool → ℤ → Type 0
CanWaitUntil bounds done now = (times : ℕ → ℤ) × IsSchedule bounds times × LeavesNoneBefore done times now
