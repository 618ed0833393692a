use Rattle.std.proofs.{Common.arith, lemmas.Grind.common_steps}
use Rattle.stn_exec.proofs.reading.read_times.Goals as goal

pub loop-word-preserved : goal.loop-word-preserved
loop-word-preserved g c = grind (arith, common_steps)
