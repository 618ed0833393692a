use Rattle.std.proofs.Common.{◌++◌, ◌∙◌, ap}
use Rattle.stn_lift.specs.PlanSource.{base_bounds, events_of}
use Rattle.stn_conflict.specs.Distances.{AreDistancesFrom, AreDistancesTo}
use Rattle.stn_site.proofs.Printing.{if_some}
use Rattle.stn_repairs.proofs.RepairFound.{repair_found}
use Rattle.stn_repairs.proofs.repairs.repair_over.Goals as goal

pub returns-in-Some : goal.returns-in-Some
returns-in-Some g c =
    repair_found (base_bounds c.args.plan.now.source) c.bounds.result.now c.args.others.now (events_of c.args.plan.now.source) c.events.result c.args.id c.args.bound c.from-from.result c.to-to.result c.from-place.result
    c.index.result.now c.neg.result c.index-in-Some.result.now c.in-Some.found.from.items c.in-Some.found.to.items
    (c.bounds.ensures.value ∙ ap base_bounds c.base-base.ensures) (c.events.ensures.value ∙ ap events_of c.base-base.ensures) c.requires.bound_named c.from-from.ensures.value c.to-to.ensures.value (c.from-place.ensures ∙ c.number.ensures.value)
    (if_some c.in_ok-found.field-0 c.in-Some.found (λ found. AreDistancesFrom (c.bounds.result.now ++ c.args.others.now) c.events.result c.from-from.result found.from.items) c.in-Some.is c.in_ok-found.ensures.from)
    (if_some c.in_ok-found.field-0 c.in-Some.found (λ found. AreDistancesTo (c.bounds.result.now ++ c.args.others.now) c.events.result c.from-from.result found.to.items) c.in-Some.is c.in_ok-found.ensures.to)
    c.index.ensures c.neg.ensures c.index-in-Some.ensures
