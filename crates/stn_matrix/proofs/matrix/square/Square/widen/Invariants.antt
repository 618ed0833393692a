use Rattle.std.proofs.Common.{◌≡◌}
use Rattle.stn_net.specs.Matrix.Table.{entry}
use Rattle.stn_matrix.proofs.Entries.{IsWidenedTo}
use Rattle.stn_matrix.proofs.matrix.square.Square.widen.Given as goal

abbrev pub invariant-loop-event : goal.invariant-loop-event
invariant-loop-event g l = record {
  events : l.self.events ≡ l.fn.self.events;
  widened : IsWidenedTo l.fn.self.events (entry l.self) l.event;
}
