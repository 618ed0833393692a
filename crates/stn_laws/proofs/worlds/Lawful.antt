-- What is true of a world in its run: its sites and packets are parts of the whole of what was made.
use Rattle.std.{proofs.{lemmas.{Grind.common_steps, List.{append_assoc, Folds.list_any-append, Elements.{Contains-append_left, Contains-append_right, Contains-append_cases}}, Map.Made.distinct_count-le, Bool.{or_right, or_cases}}, Common.{rules, ◌≡◌, ◌↔◌, ◌⊎◌, inl, inr, ⊎_elim, ℕ, zero, suc, ◌≤◌, ◌||◌, true, cond, is_some, Option, Some, None, List, [], ◌∷◌, ◌++◌, length, map, filter, is_eq, refl, ap, sym, subst, ◌∙◌, arith}}, specs.{List.Contains, Set.is_member, Cmp.tied_itself}}
use Rattle.stn_lift.specs.PlanSource.{PlanSource}
use Rattle.stn_records.{specs.{Id.{SiteCounter, same_ids}, declared.record.Record.Record, ContentLaws.ids_total, Content.{Content, Item, addition, withdrawal, replacement, HasItem, known_ids, known_in_either, no_content, IsPart}}, proofs.KnownIds.{fewer, known_member}}
use Rattle.stn_site.{specs.{Calls.{Accepted, Brought}, Change.change_call}, proofs.Items.nothing_there}
use Rattle.stn_refusal.specs.declared.failure.Failure.{Failure}
use Rattle.stn_world.{specs.{Whole.{IsWhole, IsCoherent}, World.{World, opening_world, content_at, next_id_at}, Steps.{Step, changed, merged, sent, delivered, step_refusal, IsAccepted, after, stepped, run, Brings}}, proofs.Whole.{held_record, next_unknown, change_items_of, whole_after, step_whole, whole_at_first, IsOwn, own_call}}
use Rattle.stn_laws.{specs.Runs.{Making, WasMade, items_made, makings, made_in, made_in_run, is_addition, records_made}, proofs.worlds.Runs.{one_step, brings_there, grows_after}}

-- each item of the whole was made, and each item that was made is held by its site
pub record IsLawful (world : World) (items : List Making) : Type 0 where
  pub all : Content
  pub whole : IsWhole world all
  pub made : (item : Item) → HasItem all item → WasMade items item
  pub held : (one : Making) → Contains items one → HasItem (content_at world one.site) one.item

-- ---- makings of one site
abbrev made_at : ℕ → List Item → List Making
made_at site items = map (λ item. record { site = site; item = item }) items

made_there : (site : ℕ) (new : List Item) (item : Item) → Contains new item → Contains (made_at site new) (record { site = site; item = item })
made_there site new item h3 = grind (arith, common_steps)

made_of : (site : ℕ) (new : List Item) (one : Making) → Contains (made_at site new) one → (one.site ≡ site) × Contains new one.item
made_of site [] one (k, lt, e) = absurd (omega (arith, lt))
made_of site (x ∷ rest) one (zero, lt, e) = search rules
made_of site (x ∷ rest) one (suc k, lt, e) = let later = made_of site rest one (k, omega arith, e) in (later.0, (suc later.1.0, let at = later.1.1 in omega arith, later.1.2))

nothing : {X : Type 0} (x : X) → ¬ Contains [] x
nothing x h = let lt = h.1 in omega (arith, lt)

-- the items that a call makes are those that it brings, where it takes in nothing
items_brought : (call : Accepted) → IsOwn call → (item : Item) → Contains (items_made call) item ↔ Brought call item
items_brought call own = search rules

-- ---- what each step keeps
module _ (world : World) (items : List Making) (now : IsLawful world items) where
  -- what the whole has after a step was there, or was made in it
  news : (step : Step) (item : Item) → HasItem (whole_after world step now.all) item → HasItem now.all item ⊎ WasMade (makings world step) item
  news (changed site asked) item h = let id = next_id_at world site in ⊎_elim inl
      (λ new. inr (site, made_there site (items_made (change_call asked id)) item ((items_brought (change_call asked id) (own_call asked id) item).1 new)))
      ((change_items_of now.all asked id now.whole.amends (next_unknown world now.all site now.whole) item).0 h)
  news (merged site other) item h = inl h
  news (sent site part) item h = inl h
  news (delivered site number) item h = inl h

  -- and the step brings what was made to the site that made it
  makings_brought : (step : Step) (one : Making) → Contains (makings world step) one → Brings world step one.site one.item
  makings_brought step one h = search rules

  nothing_made : (next : World) → IsLawful next items → IsLawful next (items ++ [])
  nothing_made next lawful = search rules

  lawful_after : (step : Step) → IsAccepted world step → IsLawful (after world step) (items ++ makings world step)
  lawful_after step accepted = let coherent : IsCoherent world = (now.all, now.whole) in record {
    all = whole_after world step now.all;
    whole = step_whole world now.all step accepted now.whole;
    made = λ item h. ⊎_elim
        (λ old. let m = now.made item old in (m.0, Contains-append_left items (makings world step) (record { site = m.0; item = item }) m.1))
        (λ new. (new.0, Contains-append_right items (makings world step) (record { site = new.0; item = item }) new.1))
        (news step item h);
    held = λ one h. ⊎_elim
        (λ old. grows_after world step coherent one.site one.item (now.held one old))
        (λ new. let brings = makings_brought step one new in
        (one_step world step accepted coherent one.site (brings_there world step one.site one.item accepted brings) one.item).1 (inr brings))
        (Contains-append_cases items (makings world step) one h);
  }

  by_refusal : (step : Step) (o : Option Failure) → step_refusal world step ≡ o → IsLawful (cond (is_some o) world (after world step)) (items ++ cond (is_some o) [] (makings world step))
  by_refusal step None e = lawful_after step e
  by_refusal step (Some cause) e = nothing_made world now

lawful_more : (world : World) (items : List Making) (steps : List Step) → IsLawful world items → IsLawful (run world steps) (items ++ made_in_run world steps)
lawful_more world items [] now = nothing_made world items now world now
lawful_more world items (step ∷ steps) now =
    subst (IsLawful (run (stepped world step) steps)) (append_assoc items (made_in world step) (made_in_run (stepped world step) steps))
    (lawful_more (stepped world step) (items ++ made_in world step) steps (search (rules, by_refusal)))

-- so it is at the end of each run
pub lawful_run : (source : PlanSource) (sites : ℕ) (steps : List Step) → IsLawful (run (opening_world source sites) steps) (made_in_run (opening_world source sites) steps)
lawful_run source sites steps = lawful_more (opening_world source sites) [] steps (record {
  all = no_content;
  whole = whole_at_first source sites;
  made = λ item h. absurd (nothing_there item h);
  held = λ one h. absurd (nothing one h);
})

-- ---- how many ids are known
id_of : Item → List SiteCounter → List SiteCounter
id_of (addition id one) ids = id ∷ ids
id_of (withdrawal id) ids = ids
id_of (replacement id old) ids = ids

made_ids : List Making → List SiteCounter
made_ids [] = []
made_ids (one ∷ rest) = id_of one.item (made_ids rest)

made_count : (items : List Making) → length (made_ids items) ≡ records_made items
unfolding id_of made_ids
made_count [] = refl
made_count (one ∷ rest) = by one.item (made_count rest)
  where
    by : (item : Item) → length (made_ids rest) ≡ records_made rest
        → length (id_of item (made_ids rest)) ≡ length (cond (is_addition item) (one ∷ filter (λ (m : Making). is_addition m.item) rest) (filter (λ (m : Making). is_addition m.item) rest))
    by (addition id r) more = ap suc more
    by (withdrawal id) more = more
    by (replacement id old) more = more

same_itself : (id : SiteCounter) → same_ids id id ≡ true
same_itself id = ap is_eq (tied_itself ids_total id)

-- a record that was made is among them
made_member : (items : List Making) (maker : ℕ) (id : SiteCounter) (one : Record) → Contains items (record { site = maker; item = addition id one }) → is_member same_ids (made_ids items) id ≡ true
unfolding id_of made_ids
made_member [] maker id one (k, lt, e) = absurd (omega (arith, lt))
made_member (x ∷ rest) maker id one (zero, lt, e) = ap (λ (m : Making). is_member same_ids (id_of m.item (made_ids rest)) id) e ∙ ap (λ b. b || is_member same_ids (made_ids rest) id) (same_itself id)
made_member (x ∷ rest) maker id one (suc k, lt, e) = later x.item (made_member rest maker id one (k, omega arith, e))
  where
    later : (item : Item) → is_member same_ids (made_ids rest) id ≡ true → is_member same_ids (id_of item (made_ids rest)) id ≡ true
    later (addition other r) there = or_right (same_ids id other) (is_member same_ids (made_ids rest) id) there
    later (withdrawal other) there = there
    later (replacement other old) there = there

-- so two parts of the whole know together no more ids than records were made
pub known_made : (world : World) (items : List Making) (lawful : IsLawful world items) (ours theirs : Content) → IsPart ours lawful.all → IsPart theirs lawful.all
    → known_in_either ours theirs ≤ records_made items
known_made world items lawful ours theirs first second =
    let few = fewer (known_ids ours ++ known_ids theirs) (made_ids items) (λ q m. ⊎_elim (found ours first q) (found theirs second q)
    (or_cases (is_member same_ids (known_ids ours) q) (is_member same_ids (known_ids theirs) q) (sym (list_any-append (same_ids q) (known_ids ours) (known_ids theirs)) ∙ m))) in
    omega (arith, few, distinct_count-le same_ids (made_ids items), made_count items)
  where
    found : (part : Content) → IsPart part lawful.all → (q : SiteCounter) → is_member same_ids (known_ids part) q ≡ true → is_member same_ids (made_ids items) q ≡ true
    found part inside q m =
        let one = held_record world lawful.all part q lawful.whole inside (sym (known_member part q) ∙ m) in
        let maker = lawful.made (addition q one.0) one.1 in
        made_member items maker.0 q one.0 maker.1
