use Rattle.std.proofs.{Common.arith, lemmas.{Grind.common_steps, Result.err_from_is_err_and}}
use Rattle.stn_asked.proofs.words.read_times.Goals as goal

pub words-preserved : goal.words-preserved
words-preserved g c = grind (arith, common_steps)

pub returns-in_err-time : goal.returns-in_err-time
returns-in_err-time g c = let p = err_from_is_err_and c.from_residual.result c.from_residual.ensures.1 in grind (arith, common_steps)

pub returns : goal.returns
returns g c = grind (arith, common_steps)
