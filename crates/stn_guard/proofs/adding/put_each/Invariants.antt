use Rattle.std.proofs.Common.{take}
use Rattle.stn_guard.specs.Putting.{PutsEach}
use Rattle.stn_guard.proofs.adding.put_each.Given as goal

abbrev pub invariant-loop-bound : goal.invariant-loop-bound
invariant-loop-bound g l = PutsEach l.site l.initial.records (take l.bound-index l.bounds) l.ids.items l.records
