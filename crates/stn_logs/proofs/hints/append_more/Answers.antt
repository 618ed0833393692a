use Rattle.std.proofs.{Common.arith, lemmas.Grind.common_steps}
use Rattle.stn_logs.proofs.hints.append_more.Goals as goal

pub loop-hint-preserved : goal.loop-hint-preserved
loop-hint-preserved g c = grind (arith, common_steps)
