use Rattle.stn_laws.proofs.logs.OneEnding.{one_line}
use Rattle.stn_laws.proofs.logs.one_ending.Goals as goal

pub returns : goal.returns
returns g c = one_line c.one_log.ensures c.one_guard.ensures c.one_said.ensures.refusal c.one_robust_plan.ensures c.too_many_are_not_few.ensures g.S.Store.fails
