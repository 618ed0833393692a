use Rattle.std.proofs.Common.{rules}
use Rattle.stn_matrix.proofs.matrix.square.Square.is_implied.Goals as goal

pub returns-then-entry-get : goal.returns-then-entry-get
returns-then-entry-get g c = search rules

pub returns-else-entry-get : goal.returns-else-entry-get
returns-else-entry-get g c = search rules
