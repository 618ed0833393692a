use Rattle.std.proofs.{Common.arith, lemmas.Grind.common_steps}
use Rattle.stn_site.proofs.lines.append_range_line.Goals as goal

pub returns-clause-line : goal.returns-clause-line
returns-clause-line g c = grind (arith, common_steps)
