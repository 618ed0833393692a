use Rattle.stn_laws.proofs.loosened.OneLoosened.{one_plan}
use Rattle.stn_laws.proofs.loosened.one_loosened_plan.Goals as goal

pub returns : goal.returns
returns c = one_plan
