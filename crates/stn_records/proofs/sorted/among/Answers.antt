use Rattle.std.proofs.{Common.arith, lemmas.Grind.common_steps}
use Rattle.stn_records.proofs.sorted.among.Goals as goal

pub loop-entry-preserved : goal.loop-entry-preserved
loop-entry-preserved g c = grind (arith, common_steps)

pub returns : goal.returns
returns g c = grind (arith, common_steps)
