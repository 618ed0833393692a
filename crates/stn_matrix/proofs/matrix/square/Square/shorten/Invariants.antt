use Rattle.std.proofs.Common.{◌≡◌}
use Rattle.stn_net.specs.Matrix.Table.{entry}
use Rattle.stn_matrix.proofs.Entries.{IsShortenedTo}
use Rattle.stn_matrix.proofs.matrix.square.Square.shorten.Given as goal

abbrev pub invariant-loop-row : goal.invariant-loop-row
invariant-loop-row g l = record {
  events : l.self.events ≡ l.fn.self.events;
  shortened : IsShortenedTo l.fn.self.events (entry l.fn.self) (entry l.self) l.fn.arc.from l.fn.arc.to l.fn.arc.weight l.row;
}
