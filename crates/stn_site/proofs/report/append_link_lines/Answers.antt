use Rattle.std.proofs.{Common.arith, lemmas.Grind.common_steps}
use Rattle.stn_site.proofs.report.append_link_lines.Goals as goal

pub loop-link-preserved : goal.loop-link-preserved
loop-link-preserved g c = grind (arith, common_steps)

pub returns-clause-text : goal.returns-clause-text
returns-clause-text g c = grind (arith, common_steps)
