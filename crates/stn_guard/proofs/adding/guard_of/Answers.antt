use Rattle.std.{proofs.{Common.{rules, ◌+◌, map, ap, ◌∙◌}, lemmas.List.{FromFn.length-map-range_with_len, Elements.All-append}}, specs.List.range_with_len}
use Rattle.stn_net.specs.Difference.{NamesEvents}
use Rattle.stn_lift.specs.PlanSource.{IsSoundSource, events_of, base_bounds}
use Rattle.stn_site.specs.Bounds.{live_bounds}
use Rattle.stn_guard.{specs.Adding.owner_by, proofs.SiteGuard.guard_found}
use Rattle.stn_guard.proofs.adding.guard_of.Goals as goal

pub guard-requires-clause-one_each : goal.guard-requires-clause-one_each
guard-requires-clause-one_each g c = search (rules, length-map-range_with_len)

pub returns : goal.returns
returns g c =
    let held = c.args.plan.now in
    let source = c.base-base.ensures in
    let sound : IsSoundSource held.source = rw source at c.bounds.ensures.sound in
    guard_found c.args.owned.now held c.deref-2.result.now c.bounds.result.now c.deref.result.now c.events-2.result (c.events-2.ensures.value ∙ ap events_of source)
    (c.deref-2.ensures.value ∙ c.in_ok-owners.ensures
    ∙ (λ i. map (owner_by (c.site.ensures i) c.args.owned.now) (range_with_len 0 ((c.events.ensures.value ∙ ap events_of source) i + 1))))
    (c.bounds.ensures.value ∙ ap base_bounds source) (c.deref.ensures.value ∙ c.in_ok-live.ensures.value)
    (All-append (NamesEvents (events_of held.source)) (base_bounds held.source) (live_bounds held.state) sound.named c.live_bounds.ensures.named)
    c.guard.result c.guard.ensures.none c.guard.ensures.guards c.guard.ensures.windows c.guard.ensures.made
