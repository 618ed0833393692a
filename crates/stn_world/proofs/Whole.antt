-- The sites of a world stay parts of a whole.
use Rattle.std.{proofs.{Common.{rules, ◌≡◌, ◌≢◌, ◌↔◌, ◌⊎◌, inl, inr, ⊎_elim, ℕ, ◌-◌, Bool, true, false, not, is_some, Option, Some, None, List, [], ◌∷◌, ◌++◌, set, get_or, refl, ap, sym, subst, ◌∙◌, arith}, lemmas.{Bool.{false≢true, or_cases}, Grind.common_steps}}, specs.Prelude.⊤}
use Rattle.stn_site.{proofs.{Flags.get_or-replicate_same, Items.{nothing_there, addition_items, amendment_items, withdrawal_brought}}, specs.{Bounds.RecordsName, Held.Held, Calls.{Accepted, added, amended, withdrew, took, Brought}, Change.{change_call, change_refusal}, declared.change.Change.Change}}
use Rattle.stn_net.specs.Difference.{Difference, NamesEvents}
use Rattle.stn_lift.specs.PlanSource.{PlanSource, events_of}
use Rattle.stn_records.{specs.{Id.SiteCounter, declared.record.Record.Record, Content.{Content, Item, addition, withdrawal, replacement, HasItem, is_known, no_content, plain, dispute_contents, joined_contents, IsPart, IsAmendment, AllAmend}, ContentLaws.{ids_total, ids_exact, contents_join, contents_dispute, contents_undisputed}}, proofs.{Replaced.replaced_cases, Counters.next_is_new, Gets.entries_from_get}}
use Rattle.stn_world.{specs.{World.{World, HasSite, IsRecordOf, opening_world, content_at, packet_at, held_at, next_id_at, with_content, content_after, with_call, send}, Steps.{Step, changed, merged, sent, delivered, after, IsAccepted}, Whole.{IsWhole, IsCoherent}}, proofs.{Parts.sent_inside, Accepted.{accepted_change, accepted_merge, accepted_delivery, accepted_sending}}}

-- a place of a list that was set has the new element, or what it had
set_cases : {X : Type 0} (xs : List X) (i j : ℕ) {x : X} (d : X) → ((get_or (set xs i x) j d ≡ x) × (get_or xs i d ≡ get_or xs j d)) ⊎ (get_or (set xs i x) j d ≡ get_or xs j d)
set_cases xs i j d = grind (arith, common_steps)

-- what was true of each site's content, and is of the new one
pub each_site : (P : Content → Type 0) (world : World) (at : ℕ) (content : Content) (site : ℕ) → P content → P (content_at world site) → P (content_at (with_content world at content) site)
each_site P world at content site new old = search (rules, set_cases)

-- a site keeps what it held, where the new content has what the old one had
pub kept : (world : World) (at : ℕ) (content : Content) (site : ℕ) (item : Item) → IsPart (content_at world at) content → HasItem (content_at world site) item → HasItem (content_at (with_content world at content) site) item
kept world at content site item grows there = search (rules, set_cases)

-- ---- entries
-- an entry that amends does so in a larger state
amends_more : (old new : Content) {id entry : SiteCounter} → IsPart old new → IsAmendment old.additions id entry → IsAmendment new.additions id entry
amends_more old new {id} grows is = record { added = (is.added.0, grows (addition id (plain is.added.0)) is.added.1); other = is.other }

-- each entry amends where new ones come with their records
amends_made : (old new : Content) (New : Item → Type 0) → ((item : Item) → HasItem new item ↔ (HasItem old item ⊎ New item)) → AllAmend old
    → ((id entry : SiteCounter) → New (replacement id entry) → ((bound : Difference) × New (addition id (plain bound))) × (id ≢ entry)) → AllAmend new
amends_made old new New grown amends news id entry there = ⊎_elim
    (λ was. amends_more old new (λ item h. (grown item).1 (inl h)) (amends id entry was))
    (λ h. let one = news id entry h in record { added = (one.0.0, (grown (addition id (plain one.0.0))).1 (inr one.0.1)); other = one.1 })
    ((grown (replacement id entry)).0 there)

-- ---- known ids
-- an id that is known was added, withdrawn or replaced
pub known_items : (s : Content) {id : SiteCounter} → is_known s id ≡ true
    → ((one : Record) × HasItem s (addition id one)) ⊎ (HasItem s (withdrawal id) ⊎ ((other : SiteCounter) × HasItem s (replacement other id)))
known_items s known = search (rules, replaced_cases, or_cases)

pub items_known : (s : Content) (id : SiteCounter) (one : Record) → HasItem s (addition id one) → is_known s id ≡ true
items_known s id one there = cc

-- in the whole each id has a record that a site or a packet knows
pub held_record : (world : World) (all part : Content) (id : SiteCounter) → IsWhole world all → IsPart part all → is_known part id ≡ true → (one : Record) × HasItem all (addition id one)
held_record world all part id whole inside known =
    ⊎_elim (λ h. (h.0, inside (addition id h.0) h.1)) (λ gone. ⊎_elim (λ h. whole.made id (inside (withdrawal id) h)) (λ h. whole.replaced h.0 id (inside (replacement h.0 id) h.1)) gone) (known_items part known)

-- a site's next id is new everywhere
pub next_unknown : (world : World) (all : Content) (site : ℕ) → IsWhole world all → is_known all (next_id_at world site) ≡ false
next_unknown world all site whole = none (is_known all (next_id_at world site)) refl
  where
    here : (one : Record) → ¬ HasItem all (addition (next_id_at world site) one)
    here one there = false≢true (sym (next_is_new (content_at world site) site (next_id_at world site).counter refl) ∙ items_known (content_at world site) (next_id_at world site) one (whole.own (next_id_at world site) one there))

    none : (known : Bool) → is_known all (next_id_at world site) ≡ known → known ≡ false
    none false e = refl
    none true e = let added = held_record world all all (next_id_at world site) whole (λ item h. h) e in absurd (here added.0 added.1)

pub content_here : (world : World) (site : ℕ) (content : Content) → HasSite world site → content_at (with_content world site content) site ≡ content
content_here world site content there = search rules

-- two parts of a whole agree on every id
pub parts_agree : (a b all : Content) → IsPart a all → IsPart b all → dispute_contents a b ≡ None
parts_agree a b all first second = settled (dispute_contents a b) refl
  where
    settled : (o : Option SiteCounter) → dispute_contents a b ≡ o → dispute_contents a b ≡ None
    settled None none = none
    settled (Some id) some =
        let both = contents_join.defined a b all first second in
        let is : true ≡ false = ap is_some (sym both.1) ∙ (contents_dispute a b ∙ ap (λ (o : Option SiteCounter). not (is_some o)) some) in absurd (cc)

-- ---- calls
-- the records that a call brings are new to the state, and what it takes in agrees with it
abbrev IsNewTo : Content → Accepted → Type 0
IsNewTo s (added id one) = is_known s id ≡ false
IsNewTo s (amended id old bound) = AllAmend s × (is_known s id ≡ false)
IsNewTo s (withdrew id) = ⊤
IsNewTo s (took other) = dispute_contents s other ≡ None

-- so it leaves the items that were there and those that it brought
call_items : (s : Content) (call : Accepted) → IsNewTo s call → (item : Item) → HasItem (content_after s call) item ↔ (HasItem s item ⊎ Brought call item)
call_items s (added id one) new = addition_items s id one new
call_items s (amended id old bound) new = search (rules, amendment_items)
call_items s (withdrew id) new = search (rules, withdrawal_brought)
call_items s (took other) new = contents_join.union s other (joined_contents s other) (contents_undisputed s other new)

-- a change under an id that is not known leaves the items that were there and those that it brings
pub change_items_of : (s : Content) (asked : Change) (id : SiteCounter) → AllAmend s → is_known s id ≡ false
    → (item : Item) → HasItem (content_after s (change_call asked id)) item ↔ (HasItem s item ⊎ Brought (change_call asked id) item)
change_items_of s asked id amends unknown = search (rules, call_items)

-- as one at a site is
pub changed_items : (world : World) → IsCoherent world → (site : ℕ) (asked : Change) (item : Item)
    → HasItem (content_after (content_at world site) (change_call asked (next_id_at world site))) item
    ↔ (HasItem (content_at world site) item ⊎ Brought (change_call asked (next_id_at world site)) item)
changed_items world coherent site asked = search (rules, change_items_of, next_is_new)

-- as what a site takes in is
pub taken_items : (world : World) (all : Content) → IsWhole world all → (site : ℕ) (other : Content) → IsPart other all
    → (item : Item) → HasItem (joined_contents (content_at world site) other) item ↔ (HasItem (content_at world site) item ⊎ HasItem other item)
taken_items world all whole site other inside = call_items (content_at world site) (took other) (parts_agree (content_at world site) other all (whole.sites site) inside)

-- ---- items of a change
-- each record and each entry that a change brings is one of the id
pub record_new : (asked : Change) (id other : SiteCounter) (one : Record) → Brought (change_call asked id) (addition other one) → other ≡ id
record_new asked id other one e = grind (arith)

pub entry_new : (asked : Change) (id other second : SiteCounter) → Brought (change_call asked id) (replacement other second) → other ≡ id
entry_new asked id other second e = grind (arith)

-- ---- items that a site makes
-- what a site holds grows by new items, and with it the whole: records about the plan's events that are the site's own or held by theirs, withdrawals of ids that have a
-- record, and entries of such records that replace ids that have one
made_whole : {world : World} {all more : Content} {site : ℕ} (content : Content) (New : Item → Type 0) → IsWhole world all → HasSite world site
    → ((item : Item) → HasItem more item ↔ (HasItem all item ⊎ New item))
    → ((item : Item) → HasItem content item ↔ (HasItem (content_at world site) item ⊎ New item))
    → ((id : SiteCounter) (one : Record) → New (addition id one) → (HasItem (content_at world id.site) (addition id one) ⊎ (id.site ≡ site)) × IsRecordOf (events_of world.source) one)
    → ((id : SiteCounter) → New (withdrawal id) → (one : Record) × HasItem all (addition id one))
    → ((id old : SiteCounter) → New (replacement id old) → ((one : Record) × HasItem all (addition old one)) × (((bound : Difference) × New (addition id (plain bound))) × (id ≢ old)))
    → IsWhole (with_content world site content) more
made_whole {world} {all} {more} {site} content New whole there larger grown records gone entries = record {
  sites = λ at. each_site (λ (c : Content). IsPart c more) world site content at (λ item h. (larger item).1 (⊎_elim (λ was. inl (whole.sites site item was)) inr ((grown item).0 h))) (λ item h. lifts item (whole.sites at item h));
  packets = λ number item h. lifts item (whole.packets number item h);
  own = λ id one h. ⊎_elim (λ was. stays id one (whole.own id one was)) (λ new. ⊎_elim (stays id one) (λ is.
      subst (λ (k : ℕ). HasItem (content_at (with_content world site content) k) (addition id one)) (sym is)
      (subst (λ (c : Content). HasItem c (addition id one)) (sym (content_here world site content there)) ((grown (addition id one)).1 (inr new)))) (records id one new).0) ((larger (addition id one)).0 h);
  made = λ id h. lifted id (⊎_elim (whole.made id) (gone id) ((larger (withdrawal id)).0 h));
  replaced = λ id old h. lifted old (⊎_elim (whole.replaced id old) (λ new. (entries id old new).0) ((larger (replacement id old)).0 h));
  amends = amends_made all more New larger whole.amends amending;
  sites_amend = λ at. each_site AllAmend world site content at (amends_made (content_at world site) content New grown (whole.sites_amend site) amending) (whole.sites_amend at);
  packets_amend = whole.packets_amend;
  records = λ id one h. ⊎_elim (whole.records id one) (λ new. (records id one new).1) ((larger (addition id one)).0 h);
}
  where
    stays : (id : SiteCounter) (one : Record) → HasItem (content_at world id.site) (addition id one) → HasItem (content_at (with_content world site content) id.site) (addition id one)
    stays id one was = kept world site content id.site (addition id one) (λ item h. (grown item).1 (inl h)) was

    lifts : IsPart all more
    lifts item h = (larger item).1 (inl h)

    lifted : (id : SiteCounter) → (one : Record) × HasItem all (addition id one) → (one : Record) × HasItem more (addition id one)
    lifted id one = (one.0, lifts (addition id one.0) one.1)

    amending : (id old : SiteCounter) → New (replacement id old) → ((bound : Difference) × New (addition id (plain bound))) × (id ≢ old)
    amending id old new = (entries id old new).1

-- the call takes in nothing
abbrev pub IsOwn : Accepted → Type 0
IsOwn (took other) = ⊥
IsOwn call = Unit {0}

pub own_call : (asked : Change) (id : SiteCounter) → IsOwn (change_call asked id)
own_call asked id = grind (arith)

-- each entry that it brings comes with its record
entry_amends : (call : Accepted) (id old : SiteCounter) → IsOwn call → Brought call (replacement id old) → (bound : Difference) × Brought call (addition id (plain bound))
entry_amends (added next one) id old own e = absurd (cc)
entry_amends (amended next replaced bound) id old own e = (bound, ⊎_elim (λ f. absurd (cc)) (λ f. inl (let same : id ≡ next = cc in ap (λ (i : SiteCounter). addition i (plain bound)) same)) e)
entry_amends (withdrew gone) id old own e = absurd (cc)
entry_amends (took content) id old own e = absurd own

-- what an accepted change adds is a record of the plan, and what it withdraws or replaces is known
module _ (held : Held) (asked : Change) (next : SiteCounter) (free : change_refusal held asked ≡ None) where
  record_proper : (id : SiteCounter) {one : Record} → Brought (change_call asked next) (addition id one) → IsRecordOf (events_of held.source) one
  record_proper id e = grind (arith)

  gone_known : (id : SiteCounter) → Brought (change_call asked next) (withdrawal id) → is_known held.state id ≡ true
  gone_known id e = grind (arith)

  old_known : (id old : SiteCounter) → Brought (change_call asked next) (replacement id old) → is_known held.state old ≡ true
  old_known id old e = grind (arith)

-- so it brings such items
pub changed_whole : {world : World} {all : Content} {site : ℕ} → IsWhole world all → (asked : Change) → HasSite world site → change_refusal (held_at world site) asked ≡ None
    → IsWhole (with_call world site (change_call asked (next_id_at world site))) (content_after all (change_call asked (next_id_at world site)))
changed_whole {world} {all} {site} whole asked there free =
    let held = held_at world site in
    let next = next_id_at world site in
    let call = change_call asked next in
    let known : (id : SiteCounter) → is_known held.state id ≡ true → (one : Record) × HasItem all (addition id one) = (λ id is. held_record world all held.state id whole (whole.sites site) is) in
    let new : is_known held.state next ≡ false = next_is_new held.state site next.counter refl in
    made_whole (content_after held.state call) (Brought call) whole there
    (change_items_of all asked next whole.amends (next_unknown world all site whole))
    (changed_items world (all, whole) site asked)
    (λ id one e. (inr (ap (λ (i : SiteCounter). i.site) (record_new asked next id one e)), record_proper held asked next free id e))
    (λ id e. known id (gone_known held asked next free id e))
    (λ id old e. let is = old_known held asked next free id old e in (
      known old is,
      (entry_amends call id old (own_call asked next) e, λ g. false≢true (sym new ∙ ap (λ i. is_known held.state i) (sym (entry_new asked next id old e) ∙ g) ∙ is)),
    ))

-- ---- merges
-- each record of a part is about the plan's events
pub part_named : {world : World} {all : Content} (part : Content) → IsWhole world all → IsPart part all → RecordsName (events_of world.source) part
part_named {world} part whole inside =
    entries_from_get ids_total ids_exact part.additions (λ entry. NamesEvents (events_of world.source) entry.1.bound)
    (λ id one there. (whole.records id one (inside (addition id one) there)).bound.named)

-- a site takes in another part of the whole
pub joined_whole : {world : World} {all : Content} {site : ℕ} (other : Content) → HasSite world site → IsWhole world all → IsPart other all → AllAmend other → IsWhole (with_content world site (joined_contents (content_at world site) other)) all
joined_whole {world} {all} {site} other there whole inside amends =
    made_whole (joined_contents (content_at world site) other) (HasItem other) whole there
    (λ item. (inl, λ h. ⊎_elim (λ was. was) (inside item) h)) (taken_items world all whole site other inside)
    (λ id one h. let at = inside (addition id one) h in (inl (whole.own id one at), whole.records id one at))
    (λ id h. whole.made id (inside (withdrawal id) h))
    (λ id old h. let is = amends id old h in (whole.replaced id old (inside (replacement id old) h), ((is.added.0, is.added.1), is.other)))

-- ---- packets
-- a place of a longer list has the new element, or what it had
last_cases : {X : Type 0} (xs : List X) (i : ℕ) {x : X} (d : X) → (get_or (xs ++ x ∷ []) i d ≡ x) ⊎ (get_or (xs ++ x ∷ []) i d ≡ get_or xs i d)
last_cases xs i d = grind (arith, common_steps)

-- and so has a property of all packets
pub each_packet : (P : Content → Type 0) (world : World) (part : Content) (number : ℕ) → P part → P (packet_at world number) → P (packet_at (send world part) number)
each_packet P world part number new old = search (rules, last_cases)

pub sent_whole : {world : World} {all : Content} (part : Content) → IsWhole world all → IsPart part all → AllAmend part → IsWhole (send world part) all
sent_whole {world} {all} part whole inside amends = record {
  sites = whole.sites;
  packets = λ number. each_packet (λ (c : Content). IsPart c all) world part number inside (whole.packets number);
  own = whole.own;
  made = whole.made;
  replaced = whole.replaced;
  amends = whole.amends;
  sites_amend = whole.sites_amend;
  packets_amend = λ number. each_packet AllAmend world part number amends (whole.packets_amend number);
  records = whole.records;
}

-- ---- runs
-- what all sites and packets hold together after a step
abbrev pub whole_after : World → Step → Content → Content
whole_after world (changed site asked) all = content_after all (change_call asked (next_id_at world site))
whole_after world (merged site other) all = all
whole_after world (sent site part) all = all
whole_after world (delivered site number) all = all

pub step_whole : (world : World) (all : Content) (step : Step) → IsAccepted world step → IsWhole world all → IsWhole (after world step) (whole_after world step all)
step_whole world all (changed site asked) accepted whole = let is = accepted_change world site asked accepted in changed_whole whole asked is.0 is.1
step_whole world all (merged site other) accepted whole = joined_whole (content_at world other) (accepted_merge world site other accepted).0 whole (whole.sites other) (whole.sites_amend other)
step_whole world all (sent site part) accepted whole =
    let is = (accepted_sending world site part accepted).1 in
    sent_whole part whole (λ item there. whole.sites site item (sent_inside part (content_at world site) is item there)) (search rules)
step_whole world all (delivered site number) accepted whole = joined_whole (packet_at world number) (accepted_delivery world site number accepted).0 whole (whole.packets number) (whole.packets_amend number)

pub coherent_after : (world : World) (step : Step) → IsAccepted world step → IsCoherent world → IsCoherent (after world step)
coherent_after world step accepted coherent = (whole_after world step coherent.0, step_whole world coherent.0 step accepted coherent.1)

pub nothing_at_first : (source : PlanSource) (sites site : ℕ) → content_at (opening_world source sites) site ≡ no_content
nothing_at_first source sites site = search (rules, get_or-replicate_same)

nothing_amends : AllAmend no_content
nothing_amends id old there = absurd (nothing_there (replacement id old) there)

pub whole_at_first : (source : PlanSource) (sites : ℕ) → IsWhole (opening_world source sites) no_content
whole_at_first source sites = record {
  sites = λ site. subst (λ (c : Content). IsPart c no_content) (sym (nothing_at_first source sites site)) (λ item h. h);
  packets = λ number item h. h;
  own = λ id one h. absurd (nothing_there (addition id one) h);
  made = λ id h. absurd (nothing_there (withdrawal id) h);
  replaced = λ id old h. absurd (nothing_there (replacement id old) h);
  amends = nothing_amends;
  sites_amend = λ site. subst AllAmend (sym (nothing_at_first source sites site)) nothing_amends;
  packets_amend = λ number. nothing_amends;
  records = λ id one h. absurd (nothing_there (addition id one) h);
}

pub coherent_at_first : (source : PlanSource) (sites : ℕ) → IsCoherent (opening_world source sites)
coherent_at_first source sites = (no_content, whole_at_first source sites)
