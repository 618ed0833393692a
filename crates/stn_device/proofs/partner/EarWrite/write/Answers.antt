use Rattle.std.proofs.{Common.arith, lemmas.Grind.common_steps}
use Rattle.stn_device.proofs.partner.EarWrite.write.Goals as goal

pub returns-clause-bytes : goal.returns-clause-bytes
returns-clause-bytes c = grind (arith, common_steps)
