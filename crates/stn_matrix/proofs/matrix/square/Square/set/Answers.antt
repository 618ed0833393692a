use Rattle.std.proofs.{lemmas.{Grind.{common_steps, rows}, Int.ints}, Common.arith}
use Rattle.stn_matrix.proofs.Entries.{written-set}
use Rattle.stn_matrix.proofs.matrix.square.Square.set.Goals as goal

pub returns-clause-written : goal.returns-clause-written
returns-clause-written g c = grind (arith, common_steps, written-set)

pub index_mut-requires : goal.index_mut-requires
index_mut-requires g c = grind (ints, arith, common_steps, rows)
