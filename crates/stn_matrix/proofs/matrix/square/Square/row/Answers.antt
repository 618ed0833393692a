use Rattle.std.proofs.{Common.arith, lemmas.{Grind.{common_steps, rows}, Int.ints}}
use Rattle.stn_matrix.proofs.matrix.square.Square.row.Goals as goal

pub returns-clause-entries : goal.returns-clause-entries
returns-clause-entries g c = grind (arith, common_steps)

pub slice_bounds-result-end : goal.slice_bounds-result-end
slice_bounds-result-end g c = grind (ints, arith, common_steps, rows)
