use Rattle.std.proofs.{Common.{[], ◌∷◌, ◌+◌, ◌++◌, ◌∙◌, ap, append_assoc, arith}, lemmas.Result.err_from_is_err_and}
use Rattle.stn_lift.specs.Plan.Views.{planned_step}
use Rattle.stn_questions.{specs.Steps.step_name_text, proofs.Listing.names_grown}
use Rattle.stn_questions.proofs.steps.append_name_lines.Goals as goal

pub loop-before-preserved : goal.loop-before-preserved
loop-before-preserved g c =
    let place = c.loop-before.before in
    let step = c.index-steps-before.result in
    names_grown planned_step c.args.steps.now place step c.args.out.now.items c.loop-before.out.items c.extend_from_slice.new.self.items
    (omega arith) c.index-steps-before.is c.loop-before.invariant
    (c.in_ok-extend_from_slice.ensures.items ∙ ap (λ text. text ++ 10 ∷ []) c.in_ok-append_name.ensures
    ∙ append_assoc c.loop-before.out.items (step_name_text (place + 1) (planned_step step)) (10 ∷ []))

pub returns-in_err-append_name : goal.returns-in_err-append_name
returns-in_err-append_name g c = let p = err_from_is_err_and c.from_residual.result c.from_residual.ensures.1 in rw (p.1) tt

pub returns-in_err-extend_from_slice : goal.returns-in_err-extend_from_slice
returns-in_err-extend_from_slice g c =
    let p = err_from_is_err_and c.from_residual-in_err-extend_from_slice.result c.from_residual-in_err-extend_from_slice.ensures.1 in rw (p.1) tt
