-- What the sites of a world hold after a run.
use Rattle.std.proofs.{Common.{rules, ◌≡◌, ◌↔◌, ◌⊎◌, inl, inr, ⊎_elim, ℕ, cond, is_some, Option, Some, None, List, [], ◌∷◌, refl, subst, ◌∙◌, All}}
use Rattle.stn_lift.specs.PlanSource.{PlanSource, events_of}
use Rattle.stn_records.specs.{Content.{Content, Item, HasItem, joined_contents, IsPart, addition, AllProper}, ContentLaws.contents_join}
use Rattle.stn_site.{proofs.{Items.{nothing_there, regroup}, Live.bounds_from_live}, specs.{Bounds.live_bounds}}
use Rattle.stn_refusal.specs.declared.failure.Failure.{Failure}
use Rattle.stn_world.{specs.{Whole.IsCoherent, World.{World, HasSite, opening_world, content_at, packet_at, with_content}, Steps.{Step, changed, merged, sent, delivered, after, stepped, run, step_refusal, IsAccepted, Brings, TookAt}}, proofs.{Accepted.{accepted_merge, accepted_delivery}, Whole.{changed_items, taken_items, coherent_after, coherent_at_first, nothing_at_first, kept}}}
use Rattle.stn_net.specs.Difference.{IsBoundWithin}

-- what a change of one site brings to each
changed_at : (world : World) (at : ℕ) (content : Content) (New : Item → Type 0) (item : Item) → HasSite world at
    → HasItem content item ↔ (HasItem (content_at world at) item ⊎ New item)
    → (site : ℕ) → HasSite world site → HasItem (content_at (with_content world at content) site) item ↔ (HasItem (content_at world site) item ⊎ ((at ≡ site) × New item))
changed_at world at content New item there change site other = search rules

pub one_step : (world : World) (step : Step) → IsAccepted world step → IsCoherent world → (site : ℕ) → HasSite world site → (item : Item)
    → HasItem (content_at (after world step) site) item ↔ (HasItem (content_at world site) item ⊎ Brings world step site item)
one_step world (changed at asked) accepted coherent site other item = search (rules, changed_items)
one_step world (merged at from) accepted coherent site other item =
    changed_at world at (joined_contents (content_at world at) (content_at world from)) (HasItem (content_at world from)) item (accepted_merge world at from accepted).0
    (taken_items world coherent.0 coherent.1 at (content_at world from) (coherent.1.sites from) item) site other
one_step world (sent at part) accepted coherent site other item = search rules
one_step world (delivered at number) accepted coherent site other item =
    changed_at world at (joined_contents (content_at world at) (packet_at world number)) (HasItem (packet_at world number)) item (accepted_delivery world at number accepted).0
    (taken_items world coherent.0 coherent.1 at (packet_at world number) (coherent.1.packets number) item) site other

-- a step brings items to sites that are there
pub brings_there : (world : World) (step : Step) (site : ℕ) (item : Item) → IsAccepted world step → Brings world step site item → HasSite world site
brings_there world step site item accepted brings = search rules

site_stays : (world : World) (step : Step) (site : ℕ) → HasSite world site → HasSite (after world step) site
site_stays world step site there = search rules

after_keeps : (world : World) (step : Step) → (after world step).source ≡ world.source
after_keeps world step = search rules

-- a step that is accepted is taken, and one that is refused changes nothing
module _ (P : World → Type 0) (world : World) (step : Step) where
  by_refusal : (o : Option Failure) → step_refusal world step ≡ o → (IsAccepted world step → P (after world step)) → (¬ IsAccepted world step → P world) → P (cond (is_some o) world (after world step))
  by_refusal None e taken kept = taken e
  by_refusal (Some cause) e taken kept = search rules

  pub for_step : (IsAccepted world step → P (after world step)) → (¬ IsAccepted world step → P world) → P (stepped world step)
  for_step = search rules

-- a run keeps the sites and the plan
pub run_stays : (world : World) (steps : List Step) (site : ℕ) → HasSite world site → HasSite (run world steps) site
run_stays world [] site there = there
run_stays world (step ∷ steps) site there =
    run_stays (stepped world step) steps site (for_step (λ (next : World). HasSite next site) world step (λ _. site_stays world step site there) (λ _. there))

pub run_keeps : (world : World) (steps : List Step) → (run world steps).source ≡ world.source
run_keeps world [] = refl
run_keeps world (step ∷ steps) =
    run_keeps (stepped world step) steps ∙ for_step (λ (next : World). next.source ≡ world.source) world step (λ _. after_keeps world step) (λ _. refl)

pub coherent_stepped : (world : World) (step : Step) → IsCoherent world → IsCoherent (stepped world step)
coherent_stepped world step coherent = for_step IsCoherent world step (λ accepted. coherent_after world step accepted coherent) (λ _. coherent)

pub coherent_run : (world : World) (steps : List Step) → IsCoherent world → IsCoherent (run world steps)
coherent_run world [] coherent = coherent
coherent_run world (step ∷ steps) coherent = coherent_run (stepped world step) steps (coherent_stepped world step coherent)

-- a site keeps what it held
pub grows_after : (world : World) (step : Step) → IsCoherent world → (site : ℕ) → IsPart (content_at world site) (content_at (after world step) site)
grows_after world (changed at asked) coherent site item there = search (rules, kept, changed_items)
grows_after world (merged at other) coherent site item there =
    kept world at (joined_contents (content_at world at) (content_at world other)) site item (λ i h. (taken_items world coherent.0 coherent.1 at (content_at world other) (coherent.1.sites other) i).1 (inl h)) there
grows_after world (sent at part) coherent site item there = there
grows_after world (delivered at number) coherent site item there =
    kept world at (joined_contents (content_at world at) (packet_at world number)) site item (λ i h. (taken_items world coherent.0 coherent.1 at (packet_at world number) (coherent.1.packets number) i).1 (inl h)) there

-- what a site holds it holds ever after
pub grows_run : (world : World) (steps : List Step) → IsCoherent world → (site : ℕ) → IsPart (content_at world site) (content_at (run world steps) site)
grows_run world [] coherent site item there = there
grows_run world (step ∷ steps) coherent site item there =
    grows_run (stepped world step) steps (coherent_stepped world step coherent) site item
    (for_step (λ (next : World). HasItem (content_at next site) item) world step (λ _. grows_after world step coherent site item there) (λ _. there))

pub this_step : (world : World) (step : Step) → IsCoherent world → (site : ℕ) → HasSite world site → (item : Item)
    → HasItem (content_at (stepped world step) site) item ↔ (HasItem (content_at world site) item ⊎ (IsAccepted world step × Brings world step site item))
this_step world step coherent site there item = search (rules, one_step)

all_steps : (world : World) (steps : List Step) → IsCoherent world → (site : ℕ) → HasSite world site → (item : Item)
    → HasItem (content_at (run world steps) site) item ↔ (HasItem (content_at world site) item ⊎ TookAt world steps site item)
all_steps world [] coherent site there item = search rules
all_steps world (step ∷ steps) coherent site there item =
    regroup (all_steps (stepped world step) steps (coherent_stepped world step coherent) site
    (for_step (λ (next : World). HasSite next site) world step (λ _. site_stays world step site there) (λ _. there)) item) (this_step world step coherent site there item)

pub sites_are_unions : (source : PlanSource) (sites : ℕ) (steps : List Step) (site : ℕ) → HasSite (opening_world source sites) site
    → (item : Item) → HasItem (content_at (run (opening_world source sites) steps) site) item ↔ TookAt (opening_world source sites) steps site item
sites_are_unions source sites steps site there item =
    let all = all_steps (opening_world source sites) steps (coherent_at_first source sites) site there item in (
      λ h. ⊎_elim (λ x. absurd (nothing_there item (subst (λ (c : Content). HasItem c item) (nothing_at_first source sites site) x))) (λ t. t) (all.0 h),
      λ t. all.1 (inr t),
    )

-- states that are the unions of the same items are the same
pub same_unions : (a b : Content) (P Q : Item → Type 0) → ((item : Item) → HasItem a item ↔ P item) → ((item : Item) → HasItem b item ↔ Q item) → ((item : Item) → P item ↔ Q item) → a ≡ b
same_unions a b P Q p q same = contents_join.same a b (λ item. (λ h. (q item).1 ((same item).0 ((p item).0 h)), λ h. (p item).1 ((same item).1 ((q item).0 h))))

-- ---- coherent worlds
-- what is live at a site are bounds of the plan, and the site's records of executions fix times
pub site_bounds : (world : World) → IsCoherent world → (site : ℕ) → All (IsBoundWithin (events_of world.source)) (live_bounds (content_at world site))
site_bounds world coherent site =
    bounds_from_live (IsBoundWithin (events_of world.source)) (content_at world site)
    (λ id one there live. (coherent.1.records id one (coherent.1.sites site (addition id one) there)).bound)

pub site_proper : (world : World) → IsCoherent world → (site : ℕ) → AllProper (content_at world site).additions
site_proper world coherent site id one there = (coherent.1.records id one (coherent.1.sites site (addition id one) there)).proper
