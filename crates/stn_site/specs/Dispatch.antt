-- The rest of a replica's plan: the runs of the events that are left.
use Rattle.std.specs.Prelude.{◌≡◌, ℕ, ℤ, true, Bool, List, All}
use Rattle.stn_net.specs.{Schedule.IsSchedule, Windows.{Dispatch.CanWaitUntil, Rehearsal.{IsRehearsal, NeverFalls, RunsEachOnce}}}
use Rattle.stn_lift.specs.PlanSource.{PlanSource}
use Rattle.stn_records.specs.{Record.is_done_mark as marks_done, Content.{Content, live_of}}
use Rattle.stn_site.specs.{Bounds.all_bounds, Report.done_events}

-- the times have each event that a live record says is done at its recorded time
abbrev pub KeepsRecorded : Content → (ℕ → ℤ) → Type 0
KeepsRecorded state times = All (λ entry. marks_done entry.1.mark ≡ true → times entry.1.bound.to ≡ entry.1.bound.lo) (live_of state)

-- the runs are the rest of the plan from now on, where these events count as done: the rehearsal of all bounds, in which each event that
-- is left runs once, at times that never fall; and some schedule has each run's event at its time, and each event that a live record says is
-- done at its recorded time
pub record IsRestWith (source : PlanSource) (state : Content) (done : List Bool) (now : ℤ) (runs : List (ℤ × ℕ)) : Type 0 where
  pub rehearsal : IsRehearsal (all_bounds source state) done now runs
  pub once : RunsEachOnce done runs
  pub rising : NeverFalls now runs
  pub in_time : CanWaitUntil (all_bounds source state) done now
  pub times : ℕ → ℤ
  pub schedule : IsSchedule (all_bounds source state) times
  pub running : All (λ run. times run.1 ≡ run.0) runs
  pub recorded : KeepsRecorded state times

-- the same, where those events count as done that a live record says are done
abbrev pub IsRestOfPlan : PlanSource → Content → ℤ → List (ℤ × ℕ) → Type 0
IsRestOfPlan source state now runs = IsRestWith source state (done_events source state) now runs
