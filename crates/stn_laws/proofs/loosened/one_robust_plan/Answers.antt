use Rattle.stn_laws.proofs.loosened.OneLoosened.{one_robust}
use Rattle.stn_laws.proofs.loosened.one_robust_plan.Goals as goal

pub returns : goal.returns
returns c = one_robust
