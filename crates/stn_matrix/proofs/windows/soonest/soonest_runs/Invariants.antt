use Rattle.stn_net.specs.{Schedule.times_of, Windows.Leading.AreRunsBelow}
use Rattle.stn_matrix.proofs.windows.soonest.soonest_runs.Given as goal

abbrev pub invariant-loop-number : goal.invariant-loop-number
invariant-loop-number g l = AreRunsBelow (times_of l.times) l.done l.number l.runs.items
