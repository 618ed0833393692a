use Rattle.std.proofs.{Common.arith, lemmas.Grind.common_steps}
use Rattle.stn_repairs.proofs.print.append_repairs.Goals as goal

pub loop-repair-preserved : goal.loop-repair-preserved
loop-repair-preserved g c = grind (arith, common_steps)
