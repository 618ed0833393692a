use Rattle.std.proofs.{Common.{◌++◌, ◌∙◌, ap, codes, decimal, append_assoc}, lemmas.Result.on_ok_weaker}
use Rattle.stn_lift.specs.Plan.Views.{planned_step}
use Rattle.stn_questions.specs.Steps.{step_name}
use Rattle.stn_questions.proofs.steps.append_name.Goals as goal

pub returns : goal.returns
returns g c =
    let name = step_name (planned_step c.args.step.now) in
    on_ok_weaker c.append_words.result
    (λ named. named ∙ ap (λ text. text ++ name) c.in_ok-append_pieces.ensures.text ∙ append_assoc c.args.out.now.items (decimal c.args.number ++ codes " ") name) (rw c.deref.ensures.value at c.append_words.ensures)
