use Rattle.std.proofs.{Common.arith, lemmas.Grind.elements}
use Rattle.stn_chart.proofs.look.Chart.append_sites.Goals as goal

pub returns-else-is_empty : goal.returns-else-is_empty
returns-else-is_empty g c = grind (arith, elements)
