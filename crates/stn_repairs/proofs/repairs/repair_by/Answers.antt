use Rattle.std.proofs.{Common.{rules, ◌≡◌, List, All, ap, sym, subst, ◌∙◌}, lemmas.Bool.iff_false}
use Rattle.stn_net.specs.Difference.{Difference, NamesEvents}
use Rattle.stn_lift.specs.PlanSource.{base_bounds, events_of}
use Rattle.stn_site.specs.Bounds.{bounds_of}
use Rattle.stn_repairs.{specs.Repairs.without, proofs.{Listing.others_named, RepairFound.{cycle_places, not_on_cycle}}}
use Rattle.stn_repairs.proofs.repairs.repair_by.Goals as goal

pub has_link_of-requires : goal.has_link_of-requires
has_link_of-requires g c = search (rules, cycle_places)

pub returns-then-not-has_link_of : goal.returns-then-not-has_link_of
returns-then-not-has_link_of g c =
    let own : c.bounds.result.now ≡ base_bounds c.args.plan.now.source = c.bounds.ensures.value ∙ ap base_bounds c.base.ensures in
    search (rules, not_on_cycle, iff_false)

pub repair_over-requires-clause-named : goal.repair_over-requires-clause-named
repair_over-requires-clause-named g c =
    let others : c.deref-2.result.now ≡ bounds_of (without c.args.live.now c.args.id) = search rules in
    subst (λ (bounds : List Difference). All (NamesEvents (events_of c.args.plan.now.source)) bounds) (sym others)
    (others_named (events_of c.args.plan.now.source) c.args.live.now c.requires.named c.args.id)

pub returns : goal.returns
returns g c =
    let others : c.deref-2.result.now ≡ bounds_of (without c.args.live.now c.args.id) = search rules in
    search rules
