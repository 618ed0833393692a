use Rattle.std.proofs.Common.{take}
use Rattle.stn_lift.specs.PlanSource.{base_bounds}
use Rattle.stn_repairs.specs.Repairs.{AreRepairs}
use Rattle.stn_repairs.proofs.repairs.repairs_on.Given as goal

abbrev pub invariant-loop-id : goal.invariant-loop-id
invariant-loop-id g l = AreRepairs (base_bounds l.plan.source) l.live (take l.id-index l.live) l.repairs.items
