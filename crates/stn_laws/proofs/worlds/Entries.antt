-- Amendments are whole: whoever has a record has the entry by which it replaces another.
use Rattle.std.{proofs.{Common.{rules, ◌≡◌, ◌↔◌, ◌⊎◌, inl, inr, ⊎_elim, ℕ, suc, ◌-◌, cond, is_some, Option, Some, None, List, [], ◌∷◌, get_or, refl, ap, sym, subst, ◌∙◌, arith}, lemmas.{List.{get_or_default, Elements.Contains-append_cases}}}, specs.List.Contains}
use Rattle.stn_lift.specs.PlanSource.{PlanSource}
use Rattle.stn_records.{specs.{Id.SiteCounter, declared.record.Record.Record, Content.{Content, Item, addition, replacement, HasItem, no_content, joined_contents, IsPart}}}
use Rattle.stn_site.{specs.{Calls.Brought, Change.change_call, declared.change.Change.Change}, proofs.Items.nothing_there}
use Rattle.stn_refusal.specs.declared.failure.Failure.{Failure}
use Rattle.stn_world.{specs.{Whole.{IsWhole, IsCoherent}, World.{World, HasSite, opening_world, content_at, packet_at, next_id_at, with_content, content_after, with_call, send}, Steps.{Step, changed, merged, sent, delivered, step_refusal, IsAccepted, after, stepped, run}}, proofs.{Parts.{IsSentOf, sent_inside}, Accepted.{accepted_change, accepted_merge, accepted_delivery, accepted_sending}, Whole.{each_site, each_packet, kept, items_known, next_unknown, content_here, changed_items, taken_items, record_new, entry_new, nothing_at_first, coherent_at_first}}}
use Rattle.stn_laws.{specs.Runs.{HasEntries, states_of}, proofs.worlds.Runs.coherent_stepped}

-- the site that made it has each entry of the state
abbrev OwnEntries : World → Content → Type 0
OwnEntries world state = (id old : SiteCounter) → HasItem state (replacement id old) → HasItem (content_at world id.site) (replacement id old)

-- so it is for all sites and packets, and each has the entries of its records
pub record IsEntire (world : World) : Type 0 where
  pub sites_own : (site : ℕ) → OwnEntries world (content_at world site)
  pub packets_own : (number : ℕ) → OwnEntries world (packet_at world number)
  pub sites : (site : ℕ) → HasEntries world (content_at world site)
  pub packets : (number : ℕ) → HasEntries world (packet_at world number)

module _ (world : World) (all : Content) (whole : IsWhole world all) (now : IsEntire world) where
  -- a site's next id has no record and no entry
  no_record : (site : ℕ) (one : Record) → ¬ HasItem all (addition (next_id_at world site) one)
  no_record site one there = search (rules, next_unknown, items_known)

  no_entry : (site : ℕ) (old : SiteCounter) → ¬ HasItem all (replacement (next_id_at world site) old)
  no_entry site old there = search (rules, no_record)

  -- a site holds new items: each entry among them its own site has, or it is of the site's next id; and each record comes with its entry
  grown_entire : (site : ℕ) (content : Content) (New : Item → Type 0) → HasSite world site
      → ((item : Item) → HasItem content item ↔ (HasItem (content_at world site) item ⊎ New item))
      → ((id old : SiteCounter) → New (replacement id old) → HasItem (content_at world id.site) (replacement id old) ⊎ (id ≡ next_id_at world site))
      → ((id old : SiteCounter) (one : Record) → New (addition id one) → HasItem (content_at world id.site) (replacement id old) → HasItem content (replacement id old))
      → IsEntire (with_content world site content)
  grown_entire site content New there here entries records = record {
    sites_own = λ at. each_site (OwnEntries next) world site content at new_own (kept_own (content_at world at) (now.sites_own at));
    packets_own = λ number. kept_own (packet_at world number) (now.packets_own number);
    sites = λ at. each_site (HasEntries next) world site content at new_has (kept_has (content_at world at) (whole.sites at) (now.sites at));
    packets = λ number. kept_has (packet_at world number) (whole.packets number) (now.packets number);
  }
    where
      next : World
      next = with_content world site content

      stays : (id old : SiteCounter) → HasItem (content_at world id.site) (replacement id old) → HasItem (content_at next id.site) (replacement id old)
      stays id old was = kept world site content id.site (replacement id old) (λ item h. (here item).1 (inl h)) was

      kept_own : (state : Content) → OwnEntries world state → OwnEntries next state
      kept_own state own id old entry = stays id old (own id old entry)

      new_own : OwnEntries next content
      new_own id old entry = ⊎_elim
          (λ was. stays id old (now.sites_own site id old was))
          (λ new. ⊎_elim (stays id old)
          (λ is. subst (λ (k : ℕ). HasItem (content_at next k) (replacement id old)) (sym (ap (λ (i : SiteCounter). i.site) is))
          (subst (λ (c : Content). HasItem c (replacement id old)) (sym (content_here world site content there)) entry)) (entries id old new))
          ((here (replacement id old)).0 entry)

      -- an entry that its own site has was there, or is of the site's next id
      before : (id old : SiteCounter) → HasItem (content_at next id.site) (replacement id old)
          → HasItem (content_at world id.site) (replacement id old) ⊎ ((id ≡ next_id_at world site) × HasItem content (replacement id old))
      before id old = each_site
          (λ (c : Content). HasItem c (replacement id old) → HasItem (content_at world id.site) (replacement id old) ⊎ ((id ≡ next_id_at world site) × HasItem content (replacement id old))) world site content id.site
          (λ h. ⊎_elim (λ was. inl (now.sites_own site id old was)) (λ new. ⊎_elim inl (λ is. inr (is, h)) (entries id old new)) ((here (replacement id old)).0 h))
          inl

      kept_has : (state : Content) → IsPart state all → HasEntries world state → HasEntries next state
      kept_has state inside has id old one is entry = ⊎_elim
          (λ was. has id old one is was)
          (λ new. absurd (no_record site one (subst (λ (i : SiteCounter). HasItem all (addition i one)) new.0 (inside (addition id one) is))))
          (before id old entry)

      new_has : HasEntries next content
      new_has id old one is entry = ⊎_elim
          (λ was. ⊎_elim (λ held. (here (replacement id old)).1 (inl (now.sites site id old one held was))) (λ new. records id old one new was) ((here (addition id one)).0 is))
          (λ new. new.1)
          (before id old entry)

  changed_entire : (site : ℕ) (asked : Change) → HasSite world site → IsEntire (with_call world site (change_call asked (next_id_at world site)))
  changed_entire site asked there =
      let id = next_id_at world site in
      let call = change_call asked id in
      grown_entire site (content_after (content_at world site) call) (Brought call) there (changed_items world (all, whole) site asked)
      (λ other old new. inr (entry_new asked id other old new))
      (λ other old one new entry. absurd (no_entry site old (subst (λ (i : SiteCounter). HasItem all (replacement i old)) (record_new asked id other one new) (whole.sites other.site (replacement other old) entry))))

  joined_entire : (site : ℕ) (other : Content) → HasSite world site → IsPart other all → OwnEntries world other → HasEntries world other → IsEntire (with_content world site (joined_contents (content_at world site) other))
  joined_entire site other there inside own has =
      let union = taken_items world all whole site other inside in
      grown_entire site (joined_contents (content_at world site) other) (HasItem other) there union
      (λ id old h. inl (own id old h)) (λ id old one h entry. (union (replacement id old)).1 (inr (has id old one h entry)))

  -- a part is sent with the entries of its records
  sent_entire : (site : ℕ) (part : Content) → IsSentOf part (content_at world site) → IsEntire (send world part)
  sent_entire site part is = record {
    sites_own = now.sites_own;
    packets_own = λ number. each_packet (OwnEntries world) world part number
        (λ id old h. now.sites_own site id old (sent_inside part (content_at world site) is (replacement id old) h)) (now.packets_own number);
    sites = now.sites;
    packets = λ number. each_packet (HasEntries world) world part number
        (λ id old one h entry. let found = is.records id one h in found.1 ∙ now.sites site id old one found.0 entry) (now.packets number);
  }

  entire_after : (step : Step) → IsAccepted world step → IsEntire (after world step)
  entire_after (changed site asked) accepted = search (rules, changed_entire, accepted_change)
  entire_after (merged site other) accepted = joined_entire site (content_at world other) (accepted_merge world site other accepted).0 (whole.sites other) (now.sites_own other) (now.sites other)
  entire_after (sent site part) accepted = sent_entire site part (accepted_sending world site part accepted).1
  entire_after (delivered site number) accepted = joined_entire site (packet_at world number) (accepted_delivery world site number accepted).0 (whole.packets number) (now.packets_own number) (now.packets number)

  by_refusal : (step : Step) (o : Option Failure) → step_refusal world step ≡ o → IsEntire (cond (is_some o) world (after world step))
  by_refusal step None e = entire_after step e
  by_refusal step (Some cause) e = now

entire_more : (world : World) → IsCoherent world → IsEntire world → (steps : List Step) → IsEntire (run world steps)
entire_more world coherent now [] = now
entire_more world coherent now (step ∷ steps) =
    entire_more (stepped world step) (coherent_stepped world step coherent) (by_refusal world coherent.0 coherent.1 now step (step_refusal world step) refl) steps

-- so it is at the end of each run
pub entire_run : (source : PlanSource) (sites : ℕ) (steps : List Step) → IsEntire (run (opening_world source sites) steps)
entire_run source sites steps = entire_more (opening_world source sites) (coherent_at_first source sites) (record {
  sites_own = λ site id old h. absurd (nothing_there (replacement id old) (subst (λ (c : Content). HasItem c (replacement id old)) (nothing_at_first source sites site) h));
  packets_own = λ number id old h. absurd (nothing_there (replacement id old) h);
  sites = λ site id old one h entry. absurd (nothing_there (addition id one) (subst (λ (c : Content). HasItem c (addition id one)) (nothing_at_first source sites site) h));
  packets = λ number id old one h entry. absurd (nothing_there (addition id one) h);
}) steps

-- what is true of all sites and packets is true of each state
module _ (P : Content → Type 0) (world : World) (sites : (site : ℕ) → P (content_at world site)) (packets : (number : ℕ) → P (packet_at world number)) where
  element : (xs : List Content) (one : Content) → Contains xs one → (place : ℕ) × (get_or xs (place - 1) no_content ≡ one)
  element xs one (k, lt, e) = let place : suc k - 1 ≡ k = omega arith in
      (suc k, ap (λ (i : ℕ). get_or xs i no_content) place ∙ (get_or_default xs k no_content one lt ∙ e))

  pub each_state : (one : Content) → Contains (states_of world) one → P one
  each_state one there = ⊎_elim
      (λ at. let is = element world.sites one at in subst P is.1 (sites is.0))
      (λ at. let is = element world.packets one at in subst P is.1 (packets is.0))
      (Contains-append_cases world.sites world.packets one there)
