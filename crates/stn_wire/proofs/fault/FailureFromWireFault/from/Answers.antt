use Rattle.std.proofs.Common.{rules}
use Rattle.stn_wire.proofs.fault.FailureFromWireFault.from.Goals as goal

pub returns-in-Body : goal.returns-in-Body
returns-in-Body c = search rules
