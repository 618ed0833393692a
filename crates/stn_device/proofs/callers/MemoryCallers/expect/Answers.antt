use Rattle.std.proofs.{Common.arith, lemmas.Grind.common_steps}
use Rattle.stn_device.proofs.callers.MemoryCallers.expect.Goals as goal

pub returns-clause-coming : goal.returns-clause-coming
returns-clause-coming c = grind (arith, common_steps)
