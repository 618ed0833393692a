use Rattle.std.proofs.Common.{rules}
use Rattle.stn_device.proofs.whole.FailureFromReadFault.from.Goals as goal

pub returns-in-Bound : goal.returns-in-Bound
returns-in-Bound c = search rules
