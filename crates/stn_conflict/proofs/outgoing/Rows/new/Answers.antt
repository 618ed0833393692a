use Rattle.std.proofs.{Common.arith, lemmas.Grind.common_steps}
use Rattle.stn_conflict.proofs.outgoing.Rows.new.Goals as goal

pub loop-preserved : goal.loop-preserved
loop-preserved g c = grind (arith, common_steps)
