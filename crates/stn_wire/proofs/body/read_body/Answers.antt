use Rattle.std.proofs.{Common.arith, lemmas.Grind.common_steps}
use Rattle.stn_wire.proofs.body.read_body.Goals as goal

pub returns-in-Some-eq3-default : goal.returns-in-Some-eq3-default
returns-in-Some-eq3-default g c = grind (arith, common_steps)

pub returns-in-Some-eq6-default : goal.returns-in-Some-eq6-default
returns-in-Some-eq6-default g c = grind (arith, common_steps)
