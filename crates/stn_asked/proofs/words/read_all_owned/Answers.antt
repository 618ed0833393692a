use Rattle.std.proofs.{Common.arith, lemmas.{Grind.common_steps}}
use Rattle.stn_asked.proofs.words.read_all_owned.Goals as goal

pub words-preserved : goal.words-preserved
words-preserved g c = grind (arith, common_steps)

pub returns : goal.returns
returns g c = grind (arith, common_steps)
