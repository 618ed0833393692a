use Rattle.std.proofs.{Common.{inr, refl}, lemmas.Result.err_from_is_err_and}
use Rattle.stn_effects.proofs.printing.print.Goals as goal

pub returns-in_err-write_whole-clause-failed : goal.returns-in_err-write_whole-clause-failed
returns-in_err-write_whole-clause-failed g c =
    let p = err_from_is_err_and c.from_residual.result c.from_residual.ensures.1 in
    rw (p.1, p.2) (inr (refl, (c.in_err-write_whole.ensures.part, c.in_err-write_whole.ensures.failed)))

pub returns-clause-printed : goal.returns-clause-printed
returns-clause-printed g c = (c.in_ok-write_whole.ensures.written, c.in_ok-write_whole.ensures.kept)
