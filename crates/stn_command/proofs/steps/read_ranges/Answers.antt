use Rattle.std.proofs.{Common.arith, lemmas.{Result.err_from_is_err_and, Grind.common_steps}}
use Rattle.stn_command.proofs.steps.read_ranges.Goals as goal

pub returns-in_err-range : goal.returns-in_err-range
returns-in_err-range g c = let p = err_from_is_err_and c.from_residual.result c.from_residual.ensures.1 in grind (arith, common_steps)

pub words-preserved : goal.words-preserved
words-preserved g c = grind (arith, common_steps)

pub returns : goal.returns
returns g c = grind (arith, common_steps)
