use Rattle.std.proofs.Common.{rules}
use Rattle.stn_matrix.proofs.matrix.square.Square.has_room.Goals as goal

pub returns-then-get-entry : goal.returns-then-get-entry
returns-then-get-entry g c = search rules

pub returns-else-get-entry : goal.returns-else-get-entry
returns-else-get-entry g c = search rules
