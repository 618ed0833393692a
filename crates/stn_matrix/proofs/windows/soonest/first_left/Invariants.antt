use Rattle.stn_net.specs.{Schedule.times_of, Windows.Leading.IsEarliestSoFar}
use Rattle.stn_matrix.proofs.windows.soonest.first_left.Given as goal

abbrev pub invariant-loop-number : goal.invariant-loop-number
invariant-loop-number l = IsEarliestSoFar (times_of l.times) l.done l.number l.first
