use Rattle.std.proofs.{lemmas.Grind.common_steps, Common.arith}
use Rattle.stn_questions.proofs.records.append_lines.Goals as goal

pub loop-id-preserved : goal.loop-id-preserved
loop-id-preserved g c = grind (arith, common_steps)
