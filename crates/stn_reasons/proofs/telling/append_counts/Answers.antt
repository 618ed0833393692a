use Rattle.std.proofs.{Common.arith, lemmas.Grind.common_steps}
use Rattle.stn_reasons.proofs.telling.append_counts.Goals as goal

pub returns-clause-told : goal.returns-clause-told
returns-clause-told g c = grind (arith, common_steps)
