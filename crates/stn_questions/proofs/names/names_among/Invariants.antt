use Rattle.std.proofs.Common.{◌≡◌, map, take}
use Rattle.stn_lift.specs.Plan.Views.{planned_step}
use Rattle.stn_questions.specs.Steps.{step_name}
use Rattle.stn_questions.proofs.names.names_among.Given as goal

abbrev pub invariant-loop-step : goal.invariant-loop-step
invariant-loop-step g l = map (λ name. name.items) l.names.items ≡ map step_name (map planned_step (take l.step-index l.steps))
