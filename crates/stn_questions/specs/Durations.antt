-- For proofs alone: no public clause cites these words.
use Rattle.std.specs.Prelude.{◌≡◌, ℕ, ℤ, ◌<◌, ◌≤◌, List, length}
use Rattle.stn_net.specs.Difference.{Difference}
use Rattle.stn_conflict.specs.Arcs.{bound_at}
use Rattle.stn_lift.specs.{BaseBounds.duration_of, PlanSource.activities_of}
use Rattle.stn_questions.specs.Steps.{planned_steps}

-- the least difference that the bound at a place allows
abbrev pub least_of : List Difference → ℕ → ℤ
least_of bounds place = (bound_at bounds place).lo

-- the bounds begin with one for each step of the plan, whose least difference is the step's duration
pub record AreDurations (domain plan : List ℕ) (bounds : List Difference) : Type 0 where
  pub one_each : length (planned_steps plan) ≤ length bounds
  pub lasting : (place : ℕ) → place < length (planned_steps plan) → least_of bounds place ≡ duration_of (activities_of domain plan) place
