use Rattle.std.proofs.Common.{rules}
use Rattle.stn_site.proofs.faults.FailureFromReplicaFault.from.Goals as goal

pub returns-in-Full : goal.returns-in-Full
returns-in-Full c = search rules
