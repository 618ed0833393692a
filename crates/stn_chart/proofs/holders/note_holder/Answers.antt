use Rattle.std.proofs.{Common.arith, lemmas.Grind.common_steps}
use Rattle.stn_chart.proofs.holders.note_holder.Goals as goal

pub returns-then-is_none-clause-noted : goal.returns-then-is_none-clause-noted
returns-then-is_none-clause-noted g c = grind (arith, common_steps)
