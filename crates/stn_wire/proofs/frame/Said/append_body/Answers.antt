use Rattle.std.proofs.{Common.arith, lemmas.Grind.common_steps}
use Rattle.stn_wire.proofs.frame.Said.append_body.Goals as goal

pub returns-clause-appended : goal.returns-clause-appended
returns-clause-appended g c = grind (arith, common_steps)
