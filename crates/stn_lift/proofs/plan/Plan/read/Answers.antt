use Rattle.std.proofs.{Common.{rules, ◌≡◌, ◌<◌, ◌≤◌, length, map, Ok, refl, sym, arith}, lemmas.{Bool.{ltb-false, ltb-true}, List.length-map, Result.err_from_is_err_and}}
use Rattle.stn_text.specs.Faults.{Fails}
use Rattle.stn_lift.{specs.Plan.{Lines.lines_of, Steps.{most_steps, is_plan_memory, steps_of, plan_of}, Views.planned_step}, proofs.PlanFacts.{plan_of-Ok, plan_of-many, plan_read, plan_cause_of, plan_cause_for}}
use Rattle.stn_lift.proofs.plan.Plan.read.Goals as goal

pub returns-then-is_too_long : goal.returns-then-is_too_long
unfolding plan_of
returns-then-is_too_long g c =
    let long = sym c.if-is_too_long.ensures in
    record { given = rw long refl; text = tt; cause = ltb-true _ _ long; memory = λ same. cc }

pub returns-in_err-steps : goal.returns-in_err-steps
unfolding plan_of
returns-in_err-steps g c =
    let text = c.args.text.now in
    let fault = c.in_err-steps.field-0.0 in
    let lines : Fails is_plan_memory fault (steps_of (lines_of text)) = rw (← c.new.ensures) c.in_err-steps.ensures in
    let fails : Fails is_plan_memory fault (plan_of text) = search rules in
    let returned = err_from_is_err_and c.from_residual.result c.from_residual.ensures.1 in
    rw (returned.1, returned.2) (record { given = fails; text = tt; cause = plan_cause_of text fault fails; memory = λ _. ltb-false _ _ (sym c.if-is_too_long.ensures) })

pub returns-then-len-from : goal.returns-then-len-from
returns-then-len-from g c =
    let text = c.args.text.now in
    let steps = map planned_step c.in_ok-steps.steps.items in
    let found : steps_of (lines_of text) ≡ Ok steps = rw (← c.new.ensures) c.in_ok-steps.ensures in
    let many : most_steps < length steps = rw length-map (omega arith) in
    let given = plan_of-many text steps (ltb-false _ _ (sym c.if-is_too_long.ensures)) many found in
    record { given = given; text = tt; cause = plan_cause_for text _ given; memory = λ _. ltb-false _ _ (sym c.if-is_too_long.ensures) }

-- the steps of the text
given_of : (g : _) (c : goal.Else-len-from g) → plan_of c.args.text.now ≡ Ok (map planned_step c.in_ok-steps.steps.items)
given_of g c =
    let steps = map planned_step c.in_ok-steps.steps.items in
    let few : length steps ≤ most_steps = rw length-map (omega arith) in
    search (rules, plan_of-Ok, ltb-false)

pub invariant_of-result : goal.invariant_of-result
invariant_of-result g c = plan_read c.args.text.now (given_of g c)

pub returns : goal.returns
returns g c = record { given = given_of g c; text = refl; cause = tt; memory = λ _. ltb-false _ _ (sym c.if-is_too_long.ensures) }
