use Rattle.std.proofs.{Common.arith, lemmas.Grind.common_steps}
use Rattle.stn_exec.proofs.command.read_items.Goals as goal

pub loop-word-preserved : goal.loop-word-preserved
loop-word-preserved g c = grind (arith, common_steps)

pub loop-word-preserved-in_ok-push-2 : goal.loop-word-preserved-in_ok-push-2
loop-word-preserved-in_ok-push-2 g c = grind (arith, common_steps)
