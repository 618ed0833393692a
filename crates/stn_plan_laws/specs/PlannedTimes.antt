-- When a plan made from texts has its steps, in the words of the texts.
use Rattle.std.specs.Prelude.{◌≡◌, ℕ, ◌+◌, ◌-◌, ◌*◌, ℤ, ◌+ℤ◌, List, ◌∷◌, ◌++◌, length, Some, Ok}
use Rattle.stn_pddl.specs.{Schemas.ActionSchema, Domains.{domain_of, action_named}}
use Rattle.stn_lift.specs.Plan.Steps.{PlannedStep, plan_of}

-- the step of this number, counted from 1, in the text of the plan, and the action of its name in the text of the domain
pub record IsStepOf (domain plan : List ℕ) (number : ℕ) (step : PlannedStep) (action : ActionSchema) : Type 0 where
  pub earlier : List PlannedStep
  pub later : List PlannedStep
  pub read : plan_of plan ≡ Ok (earlier ++ step ∷ later)
  pub counted : number ≡ length earlier + 1
  pub actions : List ActionSchema
  pub given : domain_of domain ≡ Ok actions
  pub named : action_named step.action actions ≡ Some action

-- the start of this step is planned at a time, and its end when a duration is over
pub record IsPlannedAt (planned : ℕ → ℤ) (number : ℕ) (time duration : ℤ) : Type 0 where
  pub start : planned (2 * number - 1) ≡ time
  pub end : planned (2 * number) ≡ time +ℤ duration
