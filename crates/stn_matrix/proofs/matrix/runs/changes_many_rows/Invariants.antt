use Rattle.std.proofs.Common.{◌≤◌}
use Rattle.stn_matrix.proofs.matrix.runs.changes_many_rows.Given as goal

abbrev pub invariant-loop-sample : goal.invariant-loop-sample
invariant-loop-sample g l = l.many ≤ l.sample
