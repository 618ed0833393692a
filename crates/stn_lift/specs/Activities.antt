-- What the steps of a plan do in a domain, or the first fault.
use Rattle.std.specs.{Prelude.{◌≡◌, ℕ, ◌+◌, ℤ, ◌+ℤ◌, int_lt, Bool, true, false, not, ◌==◌, if◌then◌else◌, List, [], ◌∷◌, ◌++◌, length, Option, Some, None, Result, Ok, Err, IsOk}, Ordering.int_eq}
use Rattle.stn_time.specs.Time.{horizon}
use Rattle.stn_text.specs.Faults.{◌>>=◌}
use Rattle.stn_pddl.specs.{Schemas.ActionSchema, Domains.action_named}
use Rattle.stn_lift.specs.{Plan.Steps.PlannedStep, declared.fault.LiftFault.{LiftFault, TheVariants.{UnknownAction, Arity, DurationDiffers, PastHorizon, Memory}}, Footprints.{GroundAtom, Footprint, start_footprint, end_footprint}}

-- a step in its domain: when it starts and how long it lasts, in milliseconds, and what its start and its end need, add and delete
pub record Activity : Type 0 where
  pub time : ℤ
  pub duration : ℤ
  pub start : Footprint GroundAtom
  pub end : Footprint GroundAtom

-- the line says a duration, and it is another
abbrev pub differs : Option ℤ → ℤ → Bool
differs None duration = false
differs (Some said) duration = not (int_eq said duration)

-- what a step does by its action
abbrev pub activity : PlannedStep → ActionSchema → Activity
activity step action = record {
  time = step.time;
  duration = action.duration;
  start = start_footprint action step.args;
  end = end_footprint action step.args;
}

-- the step of a number with its action, or the first cause against it
unfoldable pub with_action : ℕ → PlannedStep → ActionSchema → Result Activity LiftFault
with_action number step action =
    if not (length step.args == length action.parameters) then Err (Arity number)
    else (if differs step.duration action.duration then Err (DurationDiffers number)
    else (if int_lt horizon (step.time +ℤ action.duration) then Err (PastHorizon number)
    else Ok (activity step action)))

abbrev pub with_found : ℕ → PlannedStep → Option ActionSchema → Result Activity LiftFault
with_found number step None = Err (UnknownAction number)
with_found number step (Some action) = with_action number step action

-- the step of a number in a domain of these actions, or the first cause against it
unfoldable pub activity_of : List ActionSchema → ℕ → PlannedStep → Result Activity LiftFault
activity_of actions number step = with_found number step (action_named step.action actions)

-- the steps after so many others, or the fault of the first that has one; steps are counted from 1
unfoldable pub activities : List ActionSchema → ℕ → List PlannedStep → Result (List Activity) LiftFault
activities actions before [] = Ok []
activities actions before (step ∷ steps) =
    activity_of actions (before + 1) step >>= λ first.
    activities actions (before + 1) steps >>= λ others.
    Ok (first ∷ others)

-- one of the steps has the fault by itself, and no step before it has a fault
pub record IsFirstRefusedStep (actions : List ActionSchema) (steps : List PlannedStep) (fault : LiftFault) : Type 0 where
  pub earlier : List PlannedStep
  pub step : PlannedStep
  pub later : List PlannedStep
  pub whole : steps ≡ earlier ++ step ∷ later
  pub refused : activity_of actions (length earlier + 1) step ≡ Err fault
  pub none_before : IsOk (activities actions 0 earlier)

-- the cause that a fault has: the first step that is refused, refused by the first cause against it
abbrev pub IsLiftCause : List ActionSchema → List PlannedStep → LiftFault → Type 0
IsLiftCause actions steps Memory = Unit {0}
IsLiftCause actions steps fault = IsFirstRefusedStep actions steps fault

-- memory ran out
abbrev pub is_lift_memory : LiftFault → Bool
is_lift_memory Memory = true
is_lift_memory fault = false
