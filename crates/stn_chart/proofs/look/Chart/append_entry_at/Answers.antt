use Rattle.std.proofs.{Common.arith, lemmas.Grind.common_steps}
use Rattle.stn_chart.proofs.look.Chart.append_entry_at.Goals as goal

pub returns-clause-entry : goal.returns-clause-entry
returns-clause-entry g c = grind (arith, common_steps)
