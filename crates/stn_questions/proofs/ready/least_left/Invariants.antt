use Rattle.stn_net.specs.Schedule.{times_of}
use Rattle.stn_questions.proofs.Foretold.{IsLeastSoFar}
use Rattle.stn_questions.proofs.ready.least_left.Given as goal

abbrev pub invariant-loop-number : goal.invariant-loop-number
invariant-loop-number l = IsLeastSoFar (times_of l.times) l.done l.number l.least
