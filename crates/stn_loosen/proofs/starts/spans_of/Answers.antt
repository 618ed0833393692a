use Rattle.std.proofs.{Common.arith, lemmas.Grind.common_steps}
use Rattle.stn_loosen.proofs.starts.spans_of.Goals as goal

pub loop-bound-preserved : goal.loop-bound-preserved
loop-bound-preserved g c = grind (arith, common_steps)

pub returns-clause-value : goal.returns-clause-value
returns-clause-value g c = grind (arith, common_steps)
