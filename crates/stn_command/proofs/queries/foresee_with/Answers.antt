use Rattle.std.proofs.{lemmas.Result.err_from_is_err_and}
use Rattle.stn_command.proofs.Alike.{unrehearsed}
use Rattle.stn_command.proofs.queries.foresee_with.Goals as goal

pub returns-in_err-append_rest-in-Rehearse : goal.returns-in_err-append_rest-in-Rehearse
returns-in_err-append_rest-in-Rehearse g c =
    let returned = err_from_is_err_and c.from_residual-in_err-append_rest-in-Rehearse.result c.from_residual-in_err-append_rest-in-Rehearse.ensures.1 in
    rw (c.in-Rehearse.is, returned.1)
    (unrehearsed c.args.plan.now c.args.done.now c.args.now c.in_err-append_rest-in-Rehearse.field-0.0 returned.0 returned.2 c.in_err-append_rest-in-Rehearse.ensures.refused)
