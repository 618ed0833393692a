use Rattle.std.proofs.{Common.arith, lemmas.Grind.{common_steps, elements}}
use Rattle.stn_records.proofs.id.split_at_dot.Goals as goal

pub loop-place-preserved : goal.loop-place-preserved
loop-place-preserved g c = grind (arith, common_steps)

pub returns-clause-none : goal.returns-clause-none
returns-clause-none g c = grind (arith, elements)
