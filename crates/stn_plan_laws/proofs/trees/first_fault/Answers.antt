use Rattle.stn_plan_laws.proofs.trees.first_fault.Goals as goal
use Rattle.stn_plan_laws.proofs.trees.FirstFault.{first_fault_of}

pub returns : goal.returns
returns c = first_fault_of
