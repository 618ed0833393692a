use Rattle.std.proofs.{Common.arith, lemmas.Grind.common_steps}
use Rattle.stn_matrix.proofs.matrix.square.Square.widest.Goals as goal

pub widen-requires : goal.widen-requires
widen-requires g c = grind (arith, common_steps)
