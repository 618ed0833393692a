use Rattle.std.proofs.Common.{take, All}
use Rattle.stn_net.specs.Schedule.{times_of, Meets}
use Rattle.stn_net.proofs.schedule.first_broken.Given as goal

abbrev pub invariant-loop-place : goal.invariant-loop-place
invariant-loop-place l = All (Meets (times_of l.times)) (take l.place l.bounds)
