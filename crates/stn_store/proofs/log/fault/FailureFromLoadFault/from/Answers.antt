use Rattle.std.proofs.Common.{rules}
use Rattle.stn_store.proofs.log.fault.FailureFromLoadFault.from.Goals as goal

pub returns-in-Bound : goal.returns-in-Bound
returns-in-Bound c = search rules
