use Rattle.std.proofs.Common.{◌+◌}
use Rattle.stn_net.specs.Matrix.{Table.entry, Way.AreNearer}
use Rattle.stn_matrix.proofs.Passing.{AreRunsTo}
use Rattle.stn_matrix.proofs.matrix.runs.group.Given as goal

abbrev pub invariant-loop-hub : goal.invariant-loop-hub
invariant-loop-hub g l = record {
  nearer : AreNearer l.square.events (entry l.square) l.arc.from l.arc.to l.arc.weight l.columns (l.square.events + 1);
  runs : AreRunsTo (entry l.square) l.arc.to l.columns l.ends l.begin;
}
