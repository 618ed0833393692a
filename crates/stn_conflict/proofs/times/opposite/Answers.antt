use Rattle.std.proofs.{Common.arith, lemmas.Grind.common_steps}
use Rattle.stn_conflict.proofs.times.opposite.Goals as goal

pub loop-time-preserved : goal.loop-time-preserved
loop-time-preserved g c = grind (arith, common_steps)
