-- The cause of a fault gives the fault: of the text of a plan, and of the steps of a plan in a domain.
use Rattle.std.proofs.{Common.{rules, ◌≡◌, ◌<◌, ◌≤◌, ◌+◌, ℕ, false, List, [], ◌∷◌, ◌++◌, length, Err, IsOk, ap, subst, ◌∙◌, arith, All}, lemmas.List.Elements.{All-head, All-tail}}
use Rattle.stn_pddl.specs.Schemas.{ActionSchema}
use Rattle.stn_lift.{specs.{declared.{plan.fault.PlanFault.PlanFault, fault.LiftFault.LiftFault}, Plan.{Lines.lines_of, Steps.{PlannedStep, most_text, line_step, steps_of, plan_of}, Faults.{IsFirstLineFault, IsPlanCause as IsPlanCause}}, Activities.{activity_of, activities, IsFirstRefusedStep, IsLiftCause as IsLiftCause}}, proofs.{Steps.cause_of, PlanFacts.plan_of-many}}
use Rattle.stn_lift.specs.declared.plan.fault.PlanFault.TheVariants as plan
use Rattle.stn_lift.specs.Plan.Steps as read
use Rattle.stn_lift.specs.Activities as lifted

-- after lines without a fault
lines_then : (earlier later : List (ℕ × List ℕ)) (fault : PlanFault) → All (λ line. IsOk (line_step line)) earlier → steps_of later ≡ Err fault
    → steps_of (earlier ++ later) ≡ Err fault
unfolding steps_of
lines_then [] later fault none is = is
lines_then (line ∷ earlier) later fault none is =
    search (rules, All-head, (lines_then earlier later fault (All-tail (λ line. IsOk (line_step line)) line earlier none) is))

first_line : (line : ℕ × List ℕ) (lines : List (ℕ × List ℕ)) (fault : PlanFault) → line_step line ≡ Err fault → steps_of (line ∷ lines) ≡ Err fault
unfolding steps_of
first_line line lines fault is = cc

module _ (text : List ℕ) where
  short_text : (fault : PlanFault) → length text ≤ most_text → steps_of (lines_of text) ≡ Err fault → plan_of text ≡ Err fault
  unfolding plan_of
  short_text fault short is = search (rules)

  by_line : {fault : PlanFault} → (length text ≤ most_text) × IsFirstLineFault (lines_of text) fault → plan_of text ≡ Err fault
  by_line {fault} (short, is) =
      short_text fault short (ap steps_of is.whole ∙ lines_then is.earlier (is.line ∷ is.later) fault is.none_before (first_line is.line is.later fault is.its_fault))

  by_length : most_text < length text → plan_of text ≡ Err plan.TooLong
  unfolding plan_of
  by_length long = search rules

  pub plan_fault_of : (fault : PlanFault) → read.is_plan_memory fault ≡ false → IsPlanCause text fault → plan_of text ≡ Err fault
  plan_fault_of plan.TooLong some is = by_length is
  plan_fault_of plan.TooManySteps some (short, is) = search (rules, plan_of-many)
  plan_fault_of plan.Memory some is = cc
  plan_fault_of fault some is = by_line is

-- after steps that are not refused
steps_then : (actions : List ActionSchema) (before : ℕ) (earlier later : List PlannedStep) (fault : LiftFault) → IsOk (activities actions before earlier)
    → activities actions (before + length earlier) later ≡ Err fault → activities actions before (earlier ++ later) ≡ Err fault
unfolding activities
steps_then actions before [] later fault none is = search rules
steps_then actions before (step ∷ earlier) later fault none is = search (rules, (steps_then actions (before + 1) earlier later fault))

first_step : (actions : List ActionSchema) (before : ℕ) (step : PlannedStep) (steps : List PlannedStep) (fault : LiftFault) → activity_of actions (before + 1) step ≡ Err fault
    → activities actions before (step ∷ steps) ≡ Err fault
unfolding activities
first_step actions before step steps fault is = cc

module _ (actions : List ActionSchema) (steps : List PlannedStep) where
  by_step : {fault : LiftFault} → IsFirstRefusedStep actions steps fault → activities actions 0 steps ≡ Err fault
  by_step {fault} is =
      cc (steps_then actions 0 is.earlier (is.step ∷ is.later) fault is.none_before (subst (λ n. activities actions n (is.step ∷ is.later) ≡ Err fault) (omega arith) (first_step actions (length is.earlier) is.step is.later fault is.refused)))

  pub lift_fault_of : {fault : LiftFault} → lifted.is_lift_memory fault ≡ false → IsLiftCause actions steps fault → activities actions 0 steps ≡ Err fault
  lift_fault_of some is = search (rules, by_step)

  pub lift_cause_for : {fault : LiftFault} → lifted.is_lift_memory fault ≡ false → activities actions 0 steps ≡ Err fault → IsLiftCause actions steps fault
  lift_cause_for some is = search (rules, cause_of)
