-- Sites that keep to what is their own keep a schedule of all that they hold.
use Rattle.std.{proofs.{Common.{rules, ◌≡◌, inl, inr, ⊎_elim, ℕ, ◌+◌, ◌-◌, ◌<◌, ◌≤◌, Bool, true, false, cond, List, [], ◌∷◌, ◌++◌, length, get_or, refl, sym, subst, ◌∙◌, arith}, lemmas.{List.{length-set, FromFn.{length-range_with_len, get_or-range_with_len}, Elements.{All-nil, All-append, All-filter, All-head, All-tail}}}}, specs.{Prelude.{All, filter, flat_map}, List.range_with_len}}
use Rattle.stn_time.proofs.Each.{All-left, All-right}
use Rattle.stn_net.specs.{Difference.Difference, Schedule.{HasSchedule, Meets}}
use Rattle.stn_lift.specs.PlanSource.{base_bounds}
use Rattle.stn_records.{specs.{Id.SiteCounter, declared.record.Record.Record, Content.{Content, Item, addition, withdrawal, replacement, HasItem, IsPart, is_replaced, is_live, joined_contents}}, proofs.Replaced.{replaced_cases, replaced_by_withdrawal, replaced_by_entry, replaced_fewer}}
use Rattle.stn_site.{specs.{Bounds.{live_bounds, all_bounds}, Calls.Brought, Change.change_call, declared.change.Change.Change}, proofs.Live.{live_from_bounds, bounds_from_live, All-passing, All-filter_passing}}
use Rattle.stn_guard.{specs.Owners.{is_owned, own_bounds}, proofs.{Owned.all_of_pieces, Gluing.glue}}
use Rattle.stn_world.{specs.{World.{World, HasSite, has_site, content_at, packet_at, next_id_at, with_content, content_after, send}, Steps.{Step, changed, merged, sent, delivered, IsAccepted, after, stepped, run}, Whole.IsCoherent}, proofs.{Accepted.{site_decides, accepted_change, accepted_sending}, Parts.sent_inside, Whole.{record_new, each_site, each_packet, kept, changed_items, taken_items}}}
use Rattle.stn_laws.{specs.Guarded.{IsOwnItem, IsBesideOwn, HoldsGuarded, KeepsToOwn}, proofs.worlds.Runs.{for_step, coherent_stepped}}

-- ---- what each step keeps
module _ (owner : ℕ → ℕ) (state : Content) where
  beside_after : (world next : World) → ((site : ℕ) → HasSite world site → HasSite next site) → (content : Content)
      → IsBesideOwn owner world state content → IsBesideOwn owner next state content
  beside_after world next stays content beside item there = search rules

  module _ (world : World) (holds : HoldsGuarded owner state world) where
    set_guarded : (at : ℕ) (content : Content) → IsPart (content_at world at) content → IsBesideOwn owner world state content
        → HoldsGuarded owner state (with_content world at content)
    set_guarded at content grows beside = record {
      guarded = holds.guarded;
      held = λ site there item h. kept world at content site item grows (holds.held site (before site there) item h);
      sites = λ site. each_site (IsBesideOwn owner next state) world at content site (beside_after world next stays content beside) (beside_after world next stays (content_at world site) (holds.sites site));
      packets = λ number. beside_after world next stays (packet_at world number) (holds.packets number);
    }
      where
        next : World
        next = with_content world at content

        stays : (site : ℕ) → HasSite world site → HasSite next site
        stays site there = record { least = there.least; most = subst (λ (n : ℕ). site ≤ n) (sym (length-set world.sites (at - 1) content)) there.most }

        before : (site : ℕ) → HasSite next site → HasSite world site
        before site there = record { least = there.least; most = subst (λ (n : ℕ). site ≤ n) (length-set world.sites (at - 1) content) there.most }

    -- what a change of a site's own brings is a record of that site
    brought_own : (at : ℕ) (asked : Change) → HasSite world at → KeepsToOwn owner (changed at asked) → (item : Item) → Brought (change_call asked (next_id_at world at)) item → IsOwnItem owner world item
    brought_own at asked there own (addition id one) new =
        let is : id ≡ next_id_at world at = record_new asked (next_id_at world at) id one new in
        subst (λ (i : SiteCounter). IsOwnItem owner world (addition i one)) (sym is) (there, own (next_id_at world at) (addition id one) new)
    brought_own at asked there own (withdrawal id) new = own (next_id_at world at) (withdrawal id) new
    brought_own at asked there own (replacement id old) new = own (next_id_at world at) (replacement id old) new

    after_guarded : IsCoherent world → (step : Step) → IsAccepted world step → KeepsToOwn owner step → HoldsGuarded owner state (after world step)
    after_guarded coherent (changed site asked) accepted own =
        let id = next_id_at world site in
        let items = changed_items world coherent site asked in
        let there = (accepted_change world site asked accepted).0 in
        set_guarded site (content_after (content_at world site) (change_call asked id)) (λ item h. (items item).1 (inl h))
        (λ item h. ⊎_elim (holds.sites site item) (λ new. inr (brought_own site asked there own item new)) ((items item).0 h))
    after_guarded coherent (merged site other) accepted own =
        let union = taken_items world coherent.0 coherent.1 site (content_at world other) (coherent.1.sites other) in
        set_guarded site (joined_contents (content_at world site) (content_at world other)) (λ item h. (union item).1 (inl h))
        (λ item h. ⊎_elim (holds.sites site item) (holds.sites other item) ((union item).0 h))
    after_guarded coherent (sent site part) accepted own =
        let next = send world part in
        let stays : (at : ℕ) → HasSite world at → HasSite next at = (λ at there. record { least = there.least; most = there.most }) in
        let inside = sent_inside part (content_at world site) (accepted_sending world site part accepted).1 in record {
          guarded = holds.guarded;
          held = λ at there. holds.held at (record { least = there.least; most = there.most });
          sites = λ at. beside_after world next stays (content_at world at) (holds.sites at);
          packets = λ number. each_packet (IsBesideOwn owner next state) world part number
              (beside_after world next stays part (λ item h. holds.sites site item (inside item h))) (beside_after world next stays (packet_at world number) (holds.packets number));
        }
    after_guarded coherent (delivered site number) accepted own =
        let union = taken_items world coherent.0 coherent.1 site (packet_at world number) (coherent.1.packets number) in
        set_guarded site (joined_contents (content_at world site) (packet_at world number)) (λ item h. (union item).1 (inl h))
        (λ item h. ⊎_elim (holds.sites site item) (holds.packets number item) ((union item).0 h))

  pub run_guarded : (world : World) (steps : List Step) → IsCoherent world → HoldsGuarded owner state world → All (KeepsToOwn owner) steps → HoldsGuarded owner state (run world steps)
  run_guarded world [] coherent holds own = holds
  run_guarded world (step ∷ steps) coherent holds own =
      run_guarded (stepped world step) steps (coherent_stepped world step coherent)
      (for_step (HoldsGuarded owner state) world step (λ accepted. after_guarded world holds coherent step accepted (All-head (KeepsToOwn owner) step steps own)) (λ _. holds))
      (All-tail (KeepsToOwn owner) step steps own)

-- ---- a record that is there is live where its id is not replaced
unreplaced : (content : Content) (id : SiteCounter) → is_live content id ≡ true → is_replaced content id ≡ false
unreplaced content id live = search rules

-- ---- all that the sites hold together
module _ (owner : ℕ → ℕ) (state : Content) (world : World) (coherent : IsCoherent world) (holds : HoldsGuarded owner state world) where
  -- no site and no packet replaces an id that the state doesn't
  replaced_before : (content : Content) → IsBesideOwn owner world state content → (id : SiteCounter) → is_replaced content id ≡ true → is_replaced state id ≡ true
  replaced_before content beside id gone = ⊎_elim
      (λ withdrawn. ⊎_elim (λ there. replaced_by_withdrawal state id there) (λ none. absurd none) (beside (withdrawal id) withdrawn))
      (λ entry. ⊎_elim (λ there. replaced_by_entry state entry.0 id there) (λ none. absurd none) (beside (replacement entry.0 id) entry.1))
      (replaced_cases content id gone)

  -- what is live where the state is held is live wherever it is
  live_there : (content : Content) → IsBesideOwn owner world state content → (whole : Content) → IsPart state whole → (id : SiteCounter) (one : Record)
      → is_live whole id ≡ true → HasItem content (addition id one) → is_live content id ≡ true
  live_there content beside whole part id one live there = search (rules, replaced_fewer, replaced_before)

  base : List Difference
  base = base_bounds world.source

  abbrev own_live : ℕ → List Difference
  own_live site = filter (is_owned owner site) (live_bounds (content_at world site))

  abbrev own_added : ℕ → List Difference
  own_added site = cond (has_site world site) (own_live site) []

  each_own : (site : ℕ) → All (λ bound. is_owned owner site bound ≡ true) (own_added site)
  each_own site = elim (has_site world site) as (λ b. All (λ bound. is_owned owner site bound ≡ true) (cond b (own_live site) [])) [
    | true ↦ All-filter_passing (is_owned owner site) (λ bound. is_owned owner site bound ≡ true) (live_bounds (content_at world site)) (λ k d h passes. passes)
    | false ↦ All-nil _
  ]

  module _ (each : (site : ℕ) → HasSite world site → HasSchedule (own_bounds owner site (all_bounds world.source (content_at world site)))) where
    own_here : (site : ℕ) → HasSite world site → HasSchedule (own_bounds owner site ((all_bounds world.source state ++ []) ++ own_live site))
    own_here site there =
        let content = content_at world site in
        let time = (each site there).0 in
        let schedule = (each site there).1 in
        let all = All-passing (is_owned owner site) (Meets time) (all_bounds world.source content) schedule.met in
        let live = All-right (λ bound. is_owned owner site bound ≡ true → Meets time bound) (base_bounds world.source) (live_bounds content) all in
        let before : All (λ bound. is_owned owner site bound ≡ true → Meets time bound) (live_bounds state) =
        bounds_from_live (λ bound. is_owned owner site bound ≡ true → Meets time bound) state (λ id one at is.
        let here = holds.held site there (addition id one) at in
        live_from_bounds (λ bound. is_owned owner site bound ≡ true → Meets time bound) content live id one here (live_there content (holds.sites site) state (λ item h. h) id one is here)) in (
          time,
          record {
            origin = schedule.origin;
            met = All-filter_passing (is_owned owner site) (Meets time) ((all_bounds world.source state ++ []) ++ own_live site)
                (All-append (λ bound. is_owned owner site bound ≡ true → Meets time bound) (all_bounds world.source state ++ []) (own_live site)
                (All-append (λ bound. is_owned owner site bound ≡ true → Meets time bound) (all_bounds world.source state) []
                (All-append (λ bound. is_owned owner site bound ≡ true → Meets time bound) (base_bounds world.source) (live_bounds state)
                (All-left (λ bound. is_owned owner site bound ≡ true → Meets time bound) (base_bounds world.source) (live_bounds content) all) before)
                (All-nil (λ bound. is_owned owner site bound ≡ true → Meets time bound)))
                (All-filter (is_owned owner site) (λ bound. is_owned owner site bound ≡ true → Meets time bound) (live_bounds content) live));
          },
        )

    own_nowhere : (site : ℕ) → HasSchedule (own_bounds owner site ((all_bounds world.source state ++ []) ++ []))
    own_nowhere site =
        let time = holds.guarded.possible.0 in
        let schedule = holds.guarded.possible.1 in (
          time,
          record {
            origin = schedule.origin;
            met = All-filter (is_owned owner site) (Meets time) ((all_bounds world.source state ++ []) ++ [])
                (All-append (Meets time) (all_bounds world.source state ++ []) [] schedule.met (All-nil (Meets time)));
          },
        )

    own_each : (site : ℕ) → HasSchedule (own_bounds owner site ((all_bounds world.source state ++ []) ++ own_added site))
    own_each site = elim (has_site world site) as (λ b. has_site world site ≡ b → HasSchedule (own_bounds owner site ((all_bounds world.source state ++ []) ++ cond b (own_live site) []))) [
      | true ↦ λ e. own_here site ((site_decides world site).0 e)
      | false ↦ λ e. own_nowhere site
    ] refl

    abbrev numbers : List ℕ
    numbers = range_with_len 1 (length world.sites)

    glued : HasSchedule ((all_bounds world.source state ++ []) ++ flat_map own_added numbers)
    glued = glue owner (all_bounds world.source state) [] own_added numbers holds.guarded each_own own_each

    added_met : (site : ℕ) → HasSite world site → All (Meets glued.0) (own_live site)
    added_met site there =
        let least = there.least in
        let most = there.most in
        let low : site - 1 < length world.sites = omega arith in
        let within : site - 1 < length numbers = omega (arith, length-range_with_len 1 (length world.sites)) in
        let at : get_or numbers (site - 1) 0 ≡ site = get_or-range_with_len 1 (length world.sites) (site - 1) 0 low ∙ (let same : 1 + (site - 1) ≡ site = omega arith in same) in
        let all = all_of_pieces own_added (Meets glued.0) numbers (All-right (Meets glued.0) (all_bounds world.source state ++ []) (flat_map own_added numbers) glued.1.met) in
        subst (λ (b : Bool). All (Meets glued.0) (cond b (own_live site) [])) ((site_decides world site).1 there)
        (subst (λ (n : ℕ). All (Meets glued.0) (own_added n)) at (all (site - 1) 0 within))

    -- the sites' own bounds have schedules, so all that a site holds has one
    pub guarded_schedules : (site : ℕ) → HasSite world site → HasSchedule (all_bounds world.source (content_at world site))
    guarded_schedules site there =
        let time = glued.0 in
        let whole = content_at world site in
        let before = All-left (Meets time) (all_bounds world.source state) [] (All-left (Meets time) (all_bounds world.source state ++ []) (flat_map own_added numbers) glued.1.met) in
        let live = All-right (Meets time) (base_bounds world.source) (live_bounds state) before in (
          time,
          record {
            origin = glued.1.origin;
            met = All-append (Meets time) (base_bounds world.source) (live_bounds whole) (All-left (Meets time) (base_bounds world.source) (live_bounds state) before)
                (bounds_from_live (Meets time) whole (λ id one here is. ⊎_elim
                (λ old. live_from_bounds (Meets time) state live id one old (live_there state (λ item h. inl h) whole (holds.held site there) id one is old))
                (λ own.
                let content = content_at world id.site in
                let made = coherent.1.own id one (coherent.1.sites site (addition id one) here) in
                live_from_bounds (λ bound. is_owned owner id.site bound ≡ true → Meets time bound) content
                (All-passing (is_owned owner id.site) (Meets time) (live_bounds content) (added_met id.site own.0)) id one made
                (live_there content (holds.sites id.site) whole (holds.held site there) id one is made) own.1)
                (holds.sites site (addition id one) here)));
          },
        )
