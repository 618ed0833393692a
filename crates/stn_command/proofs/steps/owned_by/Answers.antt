use Rattle.std.proofs.{Common.arith, lemmas.Grind.common_steps}
use Rattle.stn_command.proofs.steps.owned_by.Goals as goal

pub loop-range-preserved : goal.loop-range-preserved
loop-range-preserved g c = grind (arith, common_steps)

pub returns : goal.returns
returns g c = grind (arith, common_steps)
