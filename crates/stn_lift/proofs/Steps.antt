-- The steps of a source, one by one and together.
use Rattle.std.{proofs.{Common.{rules, ◌≡◌, ℕ, ◌+◌, ◌≤◌, List, [], ◌∷◌, ◌++◌, length, Result, Ok, Err, IsOk, refl, ap, subst, arith}, lemmas.Result.{MatchResult-at_ok, MatchResult-at_err, MatchResult-weaker}}, specs.Result.{MatchResult, result_unwrap_or}}
use Rattle.stn_text.{specs.Faults.{◌>>=◌, Fails}, proofs.Readings.both_give}
use Rattle.stn_net.specs.Event.{most_steps}
use Rattle.stn_pddl.specs.{declared.fault.DomainFault.DomainFault, Schemas.ActionSchema}
use Rattle.stn_lift.{specs.{declared.{plan.fault.PlanFault.PlanFault, fault.LiftFault.{LiftFault}}, Plan.Steps.{PlannedStep}, Activities.{Activity, activity_of, activities, IsFirstRefusedStep, IsLiftCause, is_lift_memory}, PlanSource.{files, of_lift, steps_in, lifted, activities_of, steps_of}}, proofs.PlanFacts.plan_read}

-- the parts of a list of steps of which one is refused
record Parts (actions : List ActionSchema) (before : ℕ) (steps : List PlannedStep) (fault : LiftFault) : Type 0 where
  earlier : List PlannedStep
  step : PlannedStep
  later : List PlannedStep
  whole : steps ≡ earlier ++ step ∷ later
  refused : activity_of actions (before + length earlier + 1) step ≡ Err fault
  none_before : IsOk (activities actions before earlier)

-- after a step that is not refused
later_parts : (actions : List ActionSchema) (before : ℕ) (step : PlannedStep) (steps : List PlannedStep) (one : Activity) (fault : LiftFault) → activity_of actions (before + 1) step ≡ Ok one
    → Parts actions (before + 1) steps fault → Parts actions before (step ∷ steps) fault
unfolding activities
later_parts actions before step steps one fault is parts = record {
  earlier = step ∷ parts.earlier;
  step = parts.step;
  later = parts.later;
  whole = ap (λ others. step ∷ others) parts.whole;
  refused = subst (λ n. activity_of actions n parts.step ≡ Err fault) (omega arith) parts.refused;
  none_before = rw is (some (activities actions (before + 1) parts.earlier) parts.none_before);
}
  where
    some : (found : Result (List Activity) LiftFault) → IsOk found → IsOk (found >>= λ others. Ok (one ∷ others))
    some (Ok found) ok = refl
    some (Err given) ok = cc

-- each step has one activity, or one is refused
activities_given : (actions : List ActionSchema) (before : ℕ) (steps : List PlannedStep)
    → MatchResult (activities actions before steps) (λ found. length found ≡ length steps) (Parts actions before steps)
unfolding activities
activities_given actions before [] = refl
activities_given actions before (step ∷ steps) = by (activity_of actions (before + 1) step) refl (activities_given actions (before + 1) steps)
  where
    by : (first : Result Activity LiftFault) → activity_of actions (before + 1) step ≡ first
        → MatchResult (activities actions (before + 1) steps) (λ found. length found ≡ length steps) (Parts actions (before + 1) steps)
        → MatchResult (first >>= λ one. activities actions (before + 1) steps >>= λ others. Ok (one ∷ others)) (λ found. length found ≡ length (step ∷ steps)) (Parts actions before (step ∷ steps))
    by (Ok one) is rest =
        both_give (λ found. length found ≡ length steps) (λ found. length found ≡ length (step ∷ steps)) (Parts actions before (step ∷ steps)) (activities actions (before + 1) steps) _
        (MatchResult-weaker (activities actions (before + 1) steps) rest (λ found same. same) (λ fault parts. later_parts actions before step steps one fault is parts))
        (λ others same. omega (arith, same))
    by (Err fault) is rest = record {
      earlier = [];
      step = step;
      later = steps;
      whole = refl;
      refused = subst (λ n. activity_of actions n step ≡ Err fault) (omega arith) is;
      none_before = refl;
    }

pub length-activities : (actions : List ActionSchema) (before : ℕ) (steps : List PlannedStep) (found : List Activity) → activities actions before steps ≡ Ok found → length found ≡ length steps
length-activities actions before steps found is =
    MatchResult-at_ok (λ (given : List Activity). length given ≡ length steps) (Parts actions before steps) found is (activities_given actions before steps)

-- the fault of the steps is that of the first that is refused
first_refused : {actions : List ActionSchema} {steps : List PlannedStep} {fault : LiftFault} → activities actions 0 steps ≡ Err fault → IsFirstRefusedStep actions steps fault
first_refused {actions} {steps} {fault} e =
    let parts = MatchResult-at_err (λ (found : List Activity). length found ≡ length steps) (Parts actions 0 steps) fault e (activities_given actions 0 steps) in
    search rules

pub cause_of : (actions : List ActionSchema) (steps : List PlannedStep) (fault : LiftFault) → Fails is_lift_memory fault (activities actions 0 steps) → IsLiftCause actions steps fault
cause_of actions steps fault is = search (rules, first_refused)

-- of a domain and a plan of few enough steps
few_in : (actions : Result (List ActionSchema) DomainFault) (plan : Result (List PlannedStep) PlanFault)
    → ((steps : List PlannedStep) → plan ≡ Ok steps → length steps ≤ most_steps) → length (result_unwrap_or (steps_in actions plan) []) ≤ most_steps
few_in (Err fault) plan few = omega arith
few_in (Ok actions) (Err fault) few = omega arith
few_in (Ok actions) (Ok steps) few = by (activities actions 0 steps) refl
  where
    by : (found : Result (List Activity) LiftFault) → activities actions 0 steps ≡ found → length (result_unwrap_or (of_lift found) []) ≤ most_steps
    by (Ok found) e = let same = length-activities actions 0 steps found e in let small = few steps refl in omega arith
    by (Err fault) e = omega arith

-- two texts never have too many steps
pub few_steps : (domain plan : List ℕ) → steps_of (files domain plan) ≤ most_steps
unfolding lifted activities_of
few_steps domain plan = search (rules, few_in, plan_read)
