use Rattle.std.proofs.Common.{rules}
use Rattle.stn_wire.proofs.stream.fault.FrameFault.code.Goals as goal

pub returns-in-Kind : goal.returns-in-Kind
returns-in-Kind c = search rules
