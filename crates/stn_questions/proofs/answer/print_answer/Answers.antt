use Rattle.std.proofs.{Common.refl, lemmas.Result.err_from_is_err_and}
use Rattle.stn_questions.specs.Bounds.{bounds_text}
use Rattle.stn_questions.proofs.answer.print_answer.Goals as goal

pub returns-in_ok-print_bounds-in-Bounds-clause-answer : goal.returns-in_ok-print_bounds-in-Bounds-clause-answer
returns-in_ok-print_bounds-in-Bounds-clause-answer g c =
    (bounds_text c.args.plan.now.source c.args.plan.now.state, rw c.in-Bounds.is refl, c.in_ok-print_bounds-in-Bounds.ensures.printed)

pub returns-in_err-print_bounds-in-Bounds-clause-kept : goal.returns-in_err-print_bounds-in-Bounds-clause-kept
returns-in_err-print_bounds-in-Bounds-clause-kept g c =
    let p = err_from_is_err_and c.from_residual-in_err-print_bounds-in-Bounds.result c.from_residual-in_err-print_bounds-in-Bounds.ensures.1 in
    rw (p.1) c.in_err-print_bounds-in-Bounds.ensures.kept
