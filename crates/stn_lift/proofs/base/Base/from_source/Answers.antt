use Rattle.std.proofs.Common.{rules}
use Rattle.stn_lift.proofs.Steps.{few_steps}
use Rattle.stn_lift.proofs.base.Base.from_source.Goals as goal

pub returns-in-Files-clause-limit : goal.returns-in-Files-clause-limit
returns-in-Files-clause-limit g c = search (rules, few_steps)
