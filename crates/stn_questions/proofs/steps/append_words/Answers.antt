use Rattle.std.proofs.{Common.arith, lemmas.Grind.common_steps}
use Rattle.stn_questions.proofs.steps.append_words.Goals as goal

pub loop-argument-preserved : goal.loop-argument-preserved
loop-argument-preserved g c = grind (arith, common_steps)
