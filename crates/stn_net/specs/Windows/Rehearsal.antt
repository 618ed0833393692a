-- The whole rest of a plan, run event by event. A run is the time and the number of an event.
use Rattle.std.specs.Prelude.{◌≡◌, ℕ, ℤ, true, ◌==◌, ◌≤ℤ◌, Bool, List, [], ◌∷◌, ◌++◌, All, count_by, slice_set}
use Rattle.stn_net.specs.{Difference.Difference, Schedule.IsSchedule, Windows.Dispatch.{IsLeft, IsNext, IsOverdue, CanWaitUntil}, declared.windows.answers.{RehearseFault.{RehearseFault, TheVariants.{Overdue, Memory}}, Next.TheVariants.{Run, AllDone}}}

-- the bound that says that the event takes the time
abbrev pub fixed_at : ℤ → ℕ → Difference
fixed_at time event = record { from = 0; to = event; lo = time; hi = time }

-- the runs are a rehearsal from now on: each is what comes next once those before it are fixed at their times and done,
-- from the time of the one before on, and after the last every event is done
abbrev pub IsRehearsal : List Difference → List Bool → ℤ → List (ℤ × ℕ) → Type 0
IsRehearsal bounds done now [] = IsNext bounds done now AllDone
IsRehearsal bounds done now (run ∷ runs) =
    IsNext bounds done now (Run run.0 run.1) × IsRehearsal (bounds ++ fixed_at run.0 run.1 ∷ []) (slice_set done run.1 true) run.0 runs

-- the runs' times never fall, and none comes before now
abbrev pub NeverFalls : ℤ → List (ℤ × ℕ) → Type 0
NeverFalls now [] = Unit {0}
NeverFalls now (run ∷ runs) = (now ≤ℤ run.0) × NeverFalls run.0 runs

-- each event that is left runs once, and no other event runs
pub record RunsEachOnce (done : List Bool) (runs : List (ℤ × ℕ)) : Type 0 where
  pub left : (event : ℕ) → IsLeft done event → count_by (λ run. run.1 == event) runs ≡ 1
  pub others : (event : ℕ) → ¬ IsLeft done event → count_by (λ run. run.1 == event) runs ≡ 0

-- some schedule has each run's event at its time
abbrev pub HasScheduleThrough : List Difference → List (ℤ × ℕ) → Type 0
HasScheduleThrough bounds runs = (times : ℕ → ℤ) × IsSchedule bounds times × All (λ run. times run.1 ≡ run.0) runs

-- the fault is the first that stands against a rehearsal: the event is overdue, and no schedule has every event that is left from now on;
-- lack of memory comes only where some schedule has
abbrev pub IsRehearseFault : List Difference → List Bool → ℤ → RehearseFault → Type 0
IsRehearseFault bounds done now (Overdue event) = IsOverdue bounds done now event × ¬ CanWaitUntil bounds done now
IsRehearseFault bounds done now Memory = CanWaitUntil bounds done now
