use Rattle.std.proofs.Common.{◌≡◌, take}
use Rattle.stn_repairs.specs.Repairs.{without}
use Rattle.stn_repairs.proofs.live.without.Given as goal

abbrev pub invariant-loop-entry : goal.invariant-loop-entry
invariant-loop-entry g l = l.rest.items ≡ without (take l.entry-index l.records) l.id
