-- The steps so far, and then those of the lines that are left, are the steps of all lines.
use Rattle.std.proofs.Common.{◌≡◌, length, map}
use Rattle.stn_lift.{specs.Plan.{Steps.steps_of, Views.planned_step}, proofs.StepFacts.behind_steps}
use Rattle.stn_lift.proofs.plan.read_steps.Given as goal

abbrev pub invariant-loop-number : goal.invariant-loop-number
invariant-loop-number g l = behind_steps (map planned_step l.steps.items) (steps_of l.lines) ≡ steps_of l.fn.lines

abbrev pub decreases-loop-number : goal.decreases-loop-number
decreases-loop-number g l = length l.lines
