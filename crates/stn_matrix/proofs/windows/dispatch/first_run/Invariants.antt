use Rattle.std.proofs.Common.{ℕ, ◌<◌}
use Rattle.stn_net.specs.{Matrix.Table.far_of, Windows.Leading.{earliest, CanLead, IsEarliestSoFar}}
use Rattle.stn_matrix.proofs.windows.dispatch.first_run.Given as goal

abbrev pub invariant-loop-number : goal.invariant-loop-number
invariant-loop-number g l = record {
  none : (event : ℕ) → event < l.number → ¬ CanLead (far_of l.matrix) l.done l.now event;
  first : IsEarliestSoFar (earliest (far_of l.matrix)) l.done l.number l.first;
}
