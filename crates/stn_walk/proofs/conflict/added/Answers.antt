use Rattle.std.proofs.{Common.arith, lemmas.Int.ints}
use Rattle.stn_walk.proofs.conflict.added.Goals as goal

pub overflow_add-result : goal.overflow_add-result
overflow_add-result c = omega (arith, ints)

pub returns : goal.returns
returns c = omega (arith, ints)
