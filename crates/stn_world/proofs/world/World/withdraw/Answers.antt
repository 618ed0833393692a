use Rattle.std.proofs.lemmas.Result.{err_from_is_err_and}
use Rattle.stn_world.proofs.world.World.withdraw.Goals as goal

pub returns-in_err-change-clause-step : goal.returns-in_err-change-clause-step
returns-in_err-change-clause-step g c =
    let p = err_from_is_err_and c.from_residual.result c.from_residual.ensures.1 in
    rw (p.1, p.2) c.in_err-change.ensures.step

pub returns-clause-step : goal.returns-clause-step
returns-clause-step g c = c.in_ok-change.ensures.step

pub returns-clause-again : goal.returns-clause-again
returns-clause-again g c = c.in_ok-change.ensures.again

pub returns-in_err-change-clause-again : goal.returns-in_err-change-clause-again
returns-in_err-change-clause-again g c = rw (err_from_is_err_and c.from_residual.result c.from_residual.ensures.1).1 c.in_err-change.ensures.again
