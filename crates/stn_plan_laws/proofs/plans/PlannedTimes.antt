-- When a plan made from texts has its steps.
use Rattle.std.{specs.Prelude.slice_index_or, proofs.Common.{rules, ◌≡◌, ℕ, ◌+◌, ◌-◌, ◌*◌, pos, ◌+ℤ◌, suc, Bool, cond, List, [], ◌∷◌, ◌++◌, length, Some, Result, Ok, Err, refl, sym, ap, ◌∙◌, arith}}
use Rattle.stn_text.{specs.Faults.◌>>=◌, proofs.Readings.bind_ok}
use Rattle.stn_pddl.specs.{Schemas.ActionSchema, Domains.action_named}
use Rattle.stn_lift.{specs.{Plan.Steps.PlannedStep, declared.fault.LiftFault.{LiftFault, TheVariants.{Arity, DurationDiffers, PastHorizon}}, BaseBounds.times_behind, Activities.{Activity, activity, with_action, activity_of, activities}, PlanSource.{files, of_lift, source_with, base_of, planned_of}}, proofs.Texts.{lifted-Ok, texts_lifted}}
use Rattle.stn_plan_laws.specs.PlannedTimes.{IsStepOf, IsPlannedAt}

-- a step that is not refused does what its action says
module _ (number : ℕ) (made one : Activity) where
  accepted : (arity differs late : Bool)
      → cond arity (Err (Arity number)) (cond differs (Err (DurationDiffers number)) (cond late (Err (PastHorizon number)) (Ok made))) ≡ Ok one → made ≡ one
  accepted arity differs late e = search rules

activity_of-Ok : (actions : List ActionSchema) (number : ℕ) (step : PlannedStep) (action : ActionSchema) (one : Activity)
    → activity_of actions number step ≡ Ok one → action_named step.action actions ≡ Some action → activity step action ≡ one
unfolding activity_of with_action
activity_of-Ok actions number step action one e named = search rules

-- the times of a step after so many others
times_at : (actions : List ActionSchema) (before : ℕ) (earlier : List PlannedStep) (step : PlannedStep) (later : List PlannedStep) (action : ActionSchema) (found : List Activity)
    → activities actions before (earlier ++ step ∷ later) ≡ Ok found → action_named step.action actions ≡ Some action
    → (slice_index_or (times_behind found) (2 * length earlier) (pos 0) ≡ step.time)
    × (slice_index_or (times_behind found) (2 * length earlier + 1) (pos 0) ≡ step.time +ℤ action.duration)
unfolding activities times_behind
times_at actions before [] step later action found e named =
    let first = bind_ok (activity_of actions (before + 1) step) (λ first. activities actions (before + 1) later >>= λ others. Ok (first ∷ others)) found e in
    let others = bind_ok (activities actions (before + 1) later) (λ others. Ok (first.0 ∷ others)) found first.2 in
    let same : first.0 ∷ others.0 ≡ found = let given = others.2 in cc in
    let listed : activity step action ∷ others.0 ≡ found = search (rules, activity_of-Ok) in
    rw (← listed) (refl, refl)
times_at actions before (other ∷ earlier) step later action found e named = search (rules, (times_at actions (before + 1) earlier step later action))

-- the steps of a base are found
found_of : {domain plan : List ℕ} {found : Result (List Activity) LiftFault} → source_with (files domain plan) (of_lift found) ≡ Ok (files domain plan)
    → (steps : List Activity) × (found ≡ Ok steps)
found_of e = search rules

pub planned_at : (domain plan : List ℕ) → base_of (files domain plan) ≡ Ok (files domain plan)
    → (number : ℕ) (step : PlannedStep) (action : ActionSchema) → IsStepOf domain plan number step action
    → IsPlannedAt (planned_of (files domain plan)) number step.time action.duration
planned_at domain plan based number step action is =
    let steps = is.earlier ++ step ∷ is.later in
    let whole = lifted-Ok domain plan is.actions steps is.given is.read in
    let found = found_of (ap (source_with (files domain plan)) (sym whole) ∙ based) in
    let times = times_at is.actions 0 is.earlier step is.later action found.0 found.1 is.named in
    let start : 2 * number - 1 ≡ suc (2 * length is.earlier) = omega (arith, is.counted) in
    let end : 2 * number ≡ suc (2 * length is.earlier + 1) = omega (arith, is.counted) in
    let given = texts_lifted domain plan is.actions steps found.0 is.given is.read found.1 in
    search rules
