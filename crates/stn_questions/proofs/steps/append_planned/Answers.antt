use Rattle.std.proofs.{Common.{◌++◌, ◌∙◌, ap, arith}, lemmas.{Result.IfOk-equal, Grind.common_steps}}
use Rattle.stn_questions.specs.{Durations.least_of, Steps.step_lines}
use Rattle.stn_questions.proofs.steps.append_planned.Goals as goal

pub returns : goal.returns
returns g c =
    IfOk-equal c.append_step_lines.result _ _ _ c.append_step_lines.ensures
    (ap (λ steps. c.args.out.now.items ++ step_lines (least_of c.args.durations.now) 0 steps) (c.steps.ensures.steps ∙ c.in_ok-plan.ensures))

pub append_step_lines-requires-clause-one_each : goal.append_step_lines-requires-clause-one_each
append_step_lines-requires-clause-one_each g c = grind (arith, common_steps)
