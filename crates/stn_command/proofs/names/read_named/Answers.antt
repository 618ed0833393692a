use Rattle.std.proofs.{Common.arith, lemmas.Grind.common_steps}
use Rattle.stn_command.proofs.names.read_named.Goals as goal

pub returns-then-steps-from : goal.returns-then-steps-from
returns-then-steps-from g c = grind (arith, common_steps)

pub returns : goal.returns
returns g c = grind (arith, common_steps)
