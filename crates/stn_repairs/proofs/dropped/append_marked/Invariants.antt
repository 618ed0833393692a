use Rattle.std.proofs.Common.{◌≡◌, ◌++◌, take}
use Rattle.stn_repairs.specs.Dropped.{marked}
use Rattle.stn_repairs.proofs.dropped.append_marked.Given as goal

abbrev pub invariant-loop-entry : goal.invariant-loop-entry
invariant-loop-entry g l = l.order.items ≡ l.initial.order.items ++ marked l.mark (take l.entry-index l.live)
