use Rattle.std.proofs.lemmas.Result.{err_from_is_err_and}
use Rattle.stn_lift.proofs.Texts.{domain_refused}
use Rattle.stn_lift.proofs.base.base_of_texts.Goals as goal

pub returns-in_err-domain-clause-given : goal.returns-in_err-domain-clause-given
returns-in_err-domain-clause-given g c =
    let returned = err_from_is_err_and c.from_residual.result c.from_residual.ensures.1 in
    rw (returned.1, returned.2) (domain_refused c.args.domain.now c.args.plan.now c.in_err-domain.field-0.0 c.in_err-domain.ensures.given)
