use Rattle.std.proofs.Common.{◌≡◌}
use Rattle.stn_lift.specs.PlanSource.{base_bounds, events_of}
use Rattle.stn_repairs.proofs.Refusing.{IsRefusedSoFar}
use Rattle.stn_repairs.proofs.dropped.refused_ids.Given as goal

abbrev pub invariant-loop-id : goal.invariant-loop-id
invariant-loop-id g l = record {
  events : l.kept.events ≡ events_of l.plan.source;
  so_far : IsRefusedSoFar (base_bounds l.plan.source) l.order l.id-index l.refused.items l.kept.bounds;
}
