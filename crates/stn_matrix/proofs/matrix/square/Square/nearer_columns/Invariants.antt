use Rattle.std.proofs.Common.{◌≤◌, take}
use Rattle.stn_net.specs.Matrix.{Table.entry, Way.AreNearer}
use Rattle.stn_matrix.proofs.matrix.square.Square.nearer_columns.Given as goal

abbrev pub invariant-loop-column : goal.invariant-loop-column
invariant-loop-column g l = record {
  few : l.count ≤ l.column;
  listed : AreNearer l.fn.self.events (entry l.self) l.fn.arc.from l.fn.arc.to l.fn.arc.weight (take l.count l.columns) l.column;
}
