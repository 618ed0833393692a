use Rattle.std.proofs.Common.{◌≡◌, neg_ℤ, map, take}
use Rattle.stn_conflict.proofs.times.opposite.Given as goal

abbrev pub invariant-loop-time : goal.invariant-loop-time
invariant-loop-time g l = l.turned.items ≡ map neg_ℤ (take l.time-index l.times)
