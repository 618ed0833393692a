-- Runs of a plan whose durations vary: what was executed so far, the last first.
use Rattle.std.specs.Prelude.{◌≢◌, ℕ, ℤ, ◌-ℤ◌, ◌≤ℤ◌, ◌==◌, ◌++◌, List, [], ◌∷◌, map, find, All, Contains, Option, Some, None}
use Rattle.stn_net.specs.{Difference.Difference, Windows.{Window.IsInWindow, Rehearsal.fixed_at}}

-- an event that was executed, and when
pub record Execution : Type 0 where
  pub event : ℕ
  pub time : ℤ

-- the bounds that the executions set
abbrev pub executed_bounds : List Execution → List Difference
executed_bounds run = map (λ execution. fixed_at execution.time execution.event) run

-- a duration has begun, and lasts until the time for as long as it may
pub record Lasts (run : List Execution) (duration : Difference) (time : ℤ) : Type 0 where
  pub start : ℤ
  pub started : Contains run (record { event = duration.from; time = start })
  pub least : duration.lo ≤ℤ (time -ℤ start)
  pub most : (time -ℤ start) ≤ℤ duration.hi

-- the event may come at the time: an event that ends a duration, where this lasts until then; any other, where the time lies in its window
abbrev pub MayCome : List Difference → List Execution → ℕ → ℤ → Option Difference → Type 0
MayCome bounds run event time (Some duration) = Lasts run duration time
MayCome bounds run event time None = IsInWindow (bounds ++ executed_bounds run) event time

-- each event was executed once, when it might come
abbrev pub IsExecution : List Difference → List Difference → List Execution → Type 0
IsExecution durations bounds [] = Unit {0}
IsExecution durations bounds (last ∷ run) =
    IsExecution durations bounds run
    × All (λ execution. execution.event ≢ last.event) run
    × MayCome bounds run last.event last.time (find (λ duration. duration.to == last.event) durations)
