use Rattle.std.proofs.{Common.arith, lemmas.Grind.common_steps}
use Rattle.stn_repairs.proofs.print.append_dropped.Goals as goal

pub loop-id-preserved : goal.loop-id-preserved
loop-id-preserved g c = grind (arith, common_steps)
