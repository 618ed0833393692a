use Rattle.std.proofs.{Common.arith, lemmas.Grind.common_steps}
use Rattle.stn_wire.proofs.fields.read_high.Goals as goal

pub returns-in_default : goal.returns-in_default
returns-in_default c = grind (arith, common_steps)
