-- The law over all runs of a world.
use Rattle.std.{proofs.Common.{rules, ◌≡◌, inr, ℕ, ◌≤◌, true, false, ltb, None, List, refl, ap, ◌∙◌, arith}, specs.{Bool.then_some, List.Contains}}
use Rattle.stn_records.specs.{Id.SiteCounter, Content.{most_known, Content, Item, HasItem, is_known, is_replaced, is_live, known_in_either, dispute_contents, IsPart}}
use Rattle.stn_site.specs.{declared.faults.ReplicaFault.TheVariants.Full, Calls.Replaces, Refusals.take_refusal}
use Rattle.stn_world.{specs.{World.{World, HasSite, HasPacket, content_at, packet_at, held_at}, Whole.IsCoherent, Steps.{Step, merged, delivered, IsAccepted, stepped, run, Brings}}, proofs.{Accepted.{accepted_merge, accepted_delivery}, Merges.take_agrees, Whole.{parts_agree, held_record, items_known}}}
use Rattle.stn_laws.{specs.Runs.{Making, records_made, states_of}, proofs.worlds.{Alike.{replaces_more, replaced_by}, Runs.{brings_there, this_step, coherent_stepped, grows_run}, Entries.each_state, Lawful.{IsLawful, known_made}}}

module _ (world : World) (items : List Making) (now : IsLawful world items) where
  coherent : IsCoherent world
  coherent = (now.all, now.whole)

  -- ---- no refusal
  not_full : (a b : ℕ) → b ≤ a → ltb a b ≡ false
  not_full a b h = grind arith

  -- where few records are made, a site has room for any part of what was made
  has_room : (site : ℕ) (other : Content) → records_made items ≤ most_known → IsPart other now.all → take_refusal (held_at world site) other ≡ None
  has_room site other few inside =
      let known = known_made world items now (content_at world site) other (now.whole.sites site) inside in
      take_agrees world now.all now.whole site other inside
      ∙ ap (λ b. then_some b Full) (not_full most_known (known_in_either (content_at world site) other) (omega (arith, known, few)))

  pub delivery_accepted : records_made items ≤ most_known → (site number : ℕ) → HasSite world site → HasPacket world number → IsAccepted world (delivered site number)
  delivery_accepted few site number there packet_there = search (rules, has_room)

  pub merge_accepted : records_made items ≤ most_known → (site other : ℕ) → HasSite world site → HasSite world other → IsAccepted world (merged site other)
  merge_accepted few site other there other_there = search (rules, has_room)

  -- ---- what is held stays
  taken_stays : (step : Step) (site : ℕ) (item : Item) → IsAccepted world step → HasSite world site → Brings world step site item
      → (rest : List Step) → HasItem (content_at (run (stepped world step) rest) site) item
  taken_stays step site item accepted there brings rest =
      grows_run (stepped world step) rest (coherent_stepped world step coherent) site item ((this_step world step coherent site there item).1 (inr (accepted, brings)))

  pub delivery_stays : (site number : ℕ) → IsAccepted world (delivered site number) → (rest : List Step) → IsPart (packet_at world number) (content_at (run (stepped world (delivered site number)) rest) site)
  delivery_stays site number accepted rest item h = taken_stays (delivered site number) site item accepted (accepted_delivery world site number accepted).0 (refl, h) rest

  pub merge_stays : (site other : ℕ) → IsAccepted world (merged site other) → (rest : List Step) → IsPart (content_at world other) (content_at (run (stepped world (merged site other)) rest) site)
  merge_stays site other accepted rest item h = taken_stays (merged site other) site item accepted (accepted_merge world site other accepted).0 (refl, h) rest

  never_live : (content : Content) (id : SiteCounter) → is_replaced content id ≡ true → is_live content id ≡ false
  never_live content id gone = search rules

  pub withdrawn_stays : (step : Step) (site : ℕ) (id : SiteCounter) → IsAccepted world step → Replaces (Brings world step site) id → (rest : List Step)
      → is_live (content_at (run (stepped world step) rest) site) id ≡ false
  withdrawn_stays step site id accepted replaces rest = search (rules, never_live, replaced_by, replaces_more, taken_stays, brings_there)

  -- ---- the states agree
  state_part : (one : Content) → Contains (states_of world) one → IsPart one now.all
  state_part = each_state (λ (c : Content). IsPart c now.all) world now.whole.sites now.whole.packets

  pub any_agree : (one other : Content) → Contains (states_of world) one → Contains (states_of world) other → dispute_contents one other ≡ None
  any_agree one other there other_there = parts_agree one other now.all (state_part one there) (state_part other other_there)

  pub own_known : (one : Content) (id : SiteCounter) → Contains (states_of world) one → is_known one id ≡ true → is_known (content_at world id.site) id ≡ true
  own_known one id there known =
      let added = held_record world now.all one id now.whole (state_part one there) known in
      items_known (content_at world id.site) id added.0 (now.whole.own id added.0 added.1)
