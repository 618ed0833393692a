use Rattle.std.proofs.{Common.arith, lemmas.Grind.common_steps}
use Rattle.stn_device.proofs.callers.MemoryCallersCallers.leave.Goals as goal

pub returns : goal.returns
returns c = grind (arith, common_steps)
