use Rattle.std.proofs.{Common.arith, lemmas.Grind.elements}
use Rattle.stn_questions.proofs.ready.least_left.Goals as goal

pub loop-number-preserved : goal.loop-number-preserved
loop-number-preserved c = grind (arith, elements)
