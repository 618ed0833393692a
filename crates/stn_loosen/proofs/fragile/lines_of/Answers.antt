use Rattle.std.proofs.{Common.arith, lemmas.Grind.common_steps}
use Rattle.stn_loosen.proofs.fragile.lines_of.Goals as goal

pub loop-link-preserved : goal.loop-link-preserved
loop-link-preserved g c = grind (arith, common_steps)
