use Rattle.std.{proofs.Common.{◌≡◌, List, ◌++◌}, specs.Prelude.All}
use Rattle.stn_net.specs.{Difference.{Difference, NamesEvents}, Windows.Leading.AreFloorsBelow}
use Rattle.stn_conflict.proofs.times.append_floors.Given as goal

abbrev pub invariant-loop-number : goal.invariant-loop-number
invariant-loop-number g l = (floors : List Difference) × (l.out.items ≡ l.initial.out.items ++ floors) × AreFloorsBelow l.done l.fn.now l.number floors × All (NamesEvents l.fn.events) floors
