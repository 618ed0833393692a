use Rattle.std.proofs.Common.{◌*◌, ap}
use Rattle.stn_lift.proofs.base.Base.events.Goals as goal

pub returns-clause-value : goal.returns-clause-value
returns-clause-value g c = ap (λ steps. 2 * steps) c.steps.ensures.value
