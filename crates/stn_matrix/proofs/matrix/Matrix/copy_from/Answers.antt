use Rattle.std.proofs.Common.{rules}
use Rattle.stn_net.proofs.Tightest.{exact_same_entries}
use Rattle.stn_matrix.proofs.matrix.Matrix.copy_from.Goals as goal

pub returns-clause-exact : goal.returns-clause-exact
returns-clause-exact g c = λ bounds e. exact_same_entries bounds c.args.other.now _ (search rules) (search rules) e
