use Rattle.std.proofs.Common.{rules}
use Rattle.stn_wire.proofs.stream.fault.FailureFromFrameFault.from.Goals as goal

pub returns : goal.returns
returns c = search rules
