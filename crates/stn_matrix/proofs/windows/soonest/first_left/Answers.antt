use Rattle.std.proofs.{lemmas.Grind.common_steps, Common.arith}
use Rattle.stn_matrix.proofs.windows.soonest.first_left.Goals as goal

pub returns : goal.returns
returns c = grind (arith, common_steps)
