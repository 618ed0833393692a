-- A guard that a site of a world adds.
use Rattle.std.proofs.{Common.{rules, ◌≡◌, inl, ℕ, ◌-◌, ◌≤◌, List, [], ◌∷◌, ◌++◌, map, take, refl, sym, ap, subst, ◌∙◌, All}, lemmas.List.{length-set, take-append-le, Elements.{All-append, All-weaker}}}
use Rattle.stn_net.specs.{Difference.{Difference, NamesEvents, IsBoundWithin}, Horizon.horizon_bounds}
use Rattle.stn_lift.{specs.PlanSource.{PlanSource, base_bounds, events_of, IsSoundSource}, proofs.PlanHorizon.horizon_within}
use Rattle.stn_records.specs.{Id.SiteCounter, Content.{with_record, plain}}
use Rattle.stn_site.specs.{Bounds.{live_bounds, all_bounds}, Held.{Held, next_id}, Calls.{AllLeave, added as added_call}, declared.own.OwnedSteps.OwnedSteps}
use Rattle.stn_guard.{specs.{Guard.Guards, Adding.{owner_by, AddsGuard}}, proofs.{Made.made_guard, Put.added_guards}}
use Rattle.stn_world.{specs.{World.{World, HasSite, content_at, held_at, next_id_at, with_call}, Steps.{Step, stepped, run}, Whole.IsCoherent}, proofs.Whole.content_here}
use Rattle.stn_laws.{specs.Guarded.{adds_bound, AllAccepted, HoldsAlone, HoldsGuarded}, proofs.worlds.Runs.site_bounds}

-- records that a site adds, one after the other
each_added : (records : List (SiteCounter × Difference)) (world : World) (site : ℕ) (old new : Held) → HasSite world site → old.site ≡ site → old.state ≡ content_at world site
    → AllLeave old (map (λ (one : SiteCounter × Difference). added_call one.0 (plain one.1)) records) new
    → AllAccepted world (map (adds_bound site) (map (λ (one : SiteCounter × Difference). one.1) records))
    → content_at (run world (map (adds_bound site) (map (λ (one : SiteCounter × Difference). one.1) records))) site ≡ new.state
each_added [] world site old new there own same leave accepted = cc
each_added (one ∷ records) world site old new there own same (next, leaves, later) accepted =
    let made : World = with_call world site (added_call (next_id_at world site) (plain one.1)) in
    let step : Step = adds_bound site one.1 in
    let taken : stepped world step ≡ made = rw accepted.0 refl in
    let stays : HasSite made site = record { least = there.least; most = subst (λ (n : ℕ). site ≤ n) (sym (length-set world.sites (site - 1) (with_record (content_at world site) (next_id_at world site) (plain one.1)))) there.most } in
    let id : next_id old ≡ next_id_at world site = (λ i. next_id (record old { site = own i; state = same i })) in
    let state : next.state ≡ content_at made site =
    leaves.state.1 ∙ (λ i. with_record (same i) ((leaves.state.0 ∙ id) i) (plain one.1)) ∙ sym (content_here world site (with_record (content_at world site) (next_id_at world site) (plain one.1)) there) in
    ap (λ (now : World). content_at (run now (map (adds_bound site) (map (λ (one : SiteCounter × Difference). one.1) records))) site) taken
    ∙ each_added records made site next new stays (leaves.site ∙ own) state later accepted.1

pub guard_steps : (world : World) (site : ℕ) → HasSite world site → (owned : List OwnedSteps) (ids : List SiteCounter) (new : Held) → (adds : AddsGuard owned (held_at world site) ids new)
    → AllAccepted world (map (adds_bound site) adds.guard) → content_at (run world (map (adds_bound site) adds.guard)) site ≡ new.state
guard_steps world site there owned ids new adds accepted = search (rules, each_added)

-- all bounds of a site begin with the horizon bounds
begins : (source : PlanSource) (live : List Difference) → IsSoundSource source → take (events_of source) (base_bounds source ++ live) ≡ horizon_bounds (events_of source)
begins source live sound = search (rules, take-append-le, horizon_within)

pub guarded_world : (now : World) → IsCoherent now → IsSoundSource now.source → (site : ℕ) (owned : List OwnedSteps) (ids : List SiteCounter) (new : Held)
    → AddsGuard owned (held_at now site) ids new → (world : World) → world.source ≡ now.source → HoldsAlone new.state world → HoldsGuarded (owner_by site owned) new.state world
guarded_world now coherent sound site owned ids new adds world same alone =
    let events = events_of now.source in
    let live = live_bounds (content_at now site) in
    let named : All (NamesEvents events) (base_bounds now.source ++ live) =
    All-append (NamesEvents events) (base_bounds now.source) live sound.named (All-weaker (IsBoundWithin events) (NamesEvents events) (λ bound within. within.named) live (site_bounds now coherent site)) in
    let guards : Guards (owner_by site owned) (base_bounds now.source ++ live) adds.guard =
    made_guard (owner_by site owned) events (base_bounds now.source ++ live) adds.guard
    (record { possible = adds.possible; named = named; begins = begins now.source live sound; made = adds.is_guard }) in
    let kept : new.source ≡ now.source = source_kept (held_at now site) new adds.adds.records adds.adds.leave in
    record {
      guarded = subst (λ (source : PlanSource). Guards (owner_by site owned) (all_bounds source new.state) []) (kept ∙ sym same) (added_guards (owner_by site owned) (held_at now site) new adds.guard ids adds.adds guards);
      held = alone.held;
      sites = λ at item there. inl (alone.sites at item there);
      packets = λ number item there. inl (alone.packets number item there);
    }
  where
    source_kept : (old new : Held) (records : List (SiteCounter × Difference)) → AllLeave old (map (λ (one : SiteCounter × Difference). added_call one.0 (plain one.1)) records) new → new.source ≡ old.source
    source_kept old new [] is = ap (λ (held : Held). held.source) is
    source_kept old new (one ∷ records) (next, leaves, later) = source_kept next new records later ∙ leaves.source
