-- Records that are put to a content one after the other.
use Rattle.std.{proofs.{Common.{rules, ◌≡◌, inl, inr, ⊎_elim, ℕ, true, false, not, List, [], ◌∷◌, ◌++◌, map, Some, refl, sym, ap, subst, ◌∙◌}, lemmas.{List.{map_push, Elements.{All-nil, All-cons, All-head, All-tail, All-append}}, Bool.and_parts}}, specs.Prelude.All}
use Rattle.stn_site.{proofs.{Live.{All-passing, All-filter_passing, LiveHold, live_from_bounds, bounds_from_live, new_hold, old_hold}, Changes.{IsGrown, grown_with_record}, Items.addition_items}, specs.{Bounds.{live_bounds, all_bounds}, Held.Held, Calls.{added, took, Leaves, AllLeave}}}
use Rattle.stn_time.proofs.Each.{All-left, All-right}
use Rattle.stn_net.specs.{Difference.Difference, Schedule.Meets}
use Rattle.stn_lift.specs.PlanSource.{PlanSource, base_bounds}
use Rattle.stn_records.{specs.{Id.SiteCounter, declared.record.Record.Record, ContentLaws.contents_join, Content.{Content, IsPart, join_contents, is_known, is_live, next_counter, with_record, plain}}, proofs.Counters.next_is_new}
use Rattle.stn_guard.specs.{Owners.is_owned, Guard.Guards, Adding.AddsEach, Putting.{AllPut, PutsEach}}

abbrev pub Numbered : Type 0
Numbered = SiteCounter × Difference

abbrev pub bounds_in : List Numbered → List Difference
bounds_in records = map (λ (one : Numbered). one.1) records

-- one more
put_more : {site : ℕ} (old : Content) (records : List Numbered) (mid : Content) {id : SiteCounter} (bound : Difference) → AllPut site old records mid
    → id ≡ record { site = site; counter = next_counter mid site } → AllPut site old (records ++ (id, bound) ∷ []) (with_record mid id (plain bound))
put_more old [] mid bound is next = search rules
put_more {site} old (one ∷ records) mid {id} bound (first, rest) next = (first, put_more (with_record old one.0 (plain one.1)) records mid bound rest next)

pub puts_more : {site : ℕ} {old : Content} {bounds : List Difference} {ids : List SiteCounter} {mid new : Content} (bound : Difference) {id : SiteCounter} → PutsEach site old bounds ids mid
    → id ≡ record { site = site; counter = next_counter mid site } → new ≡ with_record mid id (plain bound) → PutsEach site old (bounds ++ bound ∷ []) (ids ++ id ∷ []) new
puts_more {site} {old} {mid} bound {id} these next is = record {
  records = these.records ++ (id, bound) ∷ [];
  bounds_are = ap (λ l. l ++ bound ∷ []) these.bounds_are ∙ sym (map_push (λ (one : Numbered). one.1) these.records (id, bound));
  ids_are = ap (λ l. l ++ id ∷ []) these.ids_are ∙ sym (map_push (λ (one : Numbered). one.0) these.records (id, bound));
  put = subst (AllPut site old (these.records ++ (id, bound) ∷ [])) (sym is) (put_more old these.records mid bound these.put next);
}

next_unknown : {site : ℕ} (old : Content) {id : SiteCounter} → id ≡ record { site = site; counter = next_counter old site } → is_known old id ≡ false
next_unknown old is = search (rules, next_is_new)

grown : {site : ℕ} {old : Content} {one : Numbered} → one.0 ≡ record { site = site; counter = next_counter old site } → IsGrown old (with_record old one.0 (plain one.1)) one.0 (plain one.1)
grown is = search (rules, grown_with_record, next_unknown)

-- all that was there is there afterwards
pub put_part : (site : ℕ) (old : Content) (records : List Numbered) (new : Content) → AllPut site old records new → IsPart old new
put_part site old [] new is item there = search rules
put_part site old (one ∷ records) new (next, rest) item there =
    put_part site (with_record old one.0 (plain one.1)) records new rest item
    ((addition_items old one.0 (plain one.1) (next_unknown old next) item).1 (inl there))

-- the join with a content that has all that is there is that content
pub absorbed : (a : Content) {b c : Content} → join_contents a b ≡ Some c → IsPart a b → c ≡ b
absorbed a {b} {c} joined part = contents_join.same c b (λ item.
    let union = contents_join.union a b c joined item in
    (λ h. ⊎_elim (part item) (λ there. there) (union.0 h), λ h. union.1 (inr h)))

-- the site's additions, one after the other
pub adds_some : (old new : Held) (state : Content) (one : Numbered) (records : List Numbered) → new.site ≡ old.site → new.source ≡ old.source → new.state ≡ state
    → AllPut old.site old.state (one ∷ records) state → AllLeave old (map (λ (each : Numbered). added each.0 (plain each.1)) (one ∷ records)) new
adds_some old new state one [] site source is (id, put) = (new, record { site = site; source = source; state = (id, is ∙ put) }, refl)
adds_some old new state one (two ∷ records) site source is (id, put) =
    let next : Held = record { site = old.site; source = old.source; state = with_record old.state one.0 (plain one.1); steps = old.steps } in
    (next, record { site = refl; source = refl; state = (id, refl) }, adds_some next new state two records site source is put)

pub adds_all : {old new : Held} {state : Content} (records : List Numbered) → new.site ≡ old.site → new.source ≡ old.source → new.state ≡ state → (state ≡ old.state → new ≡ old)
    → AllPut old.site old.state records state → AllLeave old (map (λ (each : Numbered). added each.0 (plain each.1)) records) new
adds_all [] site source is again put = again put
adds_all (one ∷ records) site source is again put = search (rules, adds_some)

-- and what they put
pub put_from : (old new : Held) (records : List Numbered) → AllLeave old (map (λ (each : Numbered). added each.0 (plain each.1)) records) new
    → AllPut old.site old.state records new.state × (new.source ≡ old.source)
put_from old new [] is = search rules
put_from old new (one ∷ records) (next, leaves, later) =
    let back = put_from next new records later in (
      (leaves.state.0, subst (λ (s : Content). AllPut old.site s records new.state) leaves.state.1 (subst (λ (n : ℕ). AllPut n next.state records new.state) leaves.site back.0)),
      back.1 ∙ leaves.source,
    )

module _ (P : Difference → Type 0) (site : ℕ) where
  -- what holds of the live bounds and of those that are put holds of all that are live afterwards, and the other way round
  hold_after : (old : Content) (records : List Numbered) (new : Content) → AllPut site old records new → LiveHold P old → All P (bounds_in records) → LiveHold P new
  hold_after old [] new is live all = subst (LiveHold P) (sym is) live
  hold_after old (one ∷ records) new (id, put) live all =
      let more = grown id in
      hold_after (with_record old one.0 (plain one.1)) records new put
      (new_hold P old (with_record old one.0 (plain one.1)) more.extends more.keeps live
      (λ q r there rose. subst (λ (v : Record). P v.bound) (sym (more.alone q r there rose)) (All-head P one.1 (bounds_in records) all)))
      (All-tail P one.1 (bounds_in records) all)

  hold_before : (old : Content) (records : List Numbered) (new : Content) → AllPut site old records new → LiveHold P new → LiveHold P old × All P (bounds_in records)
  hold_before old [] new is live = (subst (LiveHold P) is live, All-nil P)
  hold_before old (one ∷ records) new (id, put) live =
      let next = with_record old one.0 (plain one.1) in
      let more = grown id in
      let back = hold_before next records new put live in (
        old_hold P old next more.extends more.keeps back.0,
        All-cons P one.1 (bounds_in records) (back.0 one.0 (plain one.1) more.there (and_parts (is_live next one.0) (not (is_live old one.0)) more.rose).0) back.1,
      )

  module _ (base : List Difference) (old : Content) (records : List Numbered) (new : Content) (put : AllPut site old records new) where
    all_after : All P ((base ++ live_bounds old) ++ bounds_in records) → All P ((base ++ live_bounds new) ++ [])
    all_after all =
        let before = All-left P (base ++ live_bounds old) (bounds_in records) all in
        All-append P (base ++ live_bounds new) []
        (All-append P base (live_bounds new) (All-left P base (live_bounds old) before)
        (bounds_from_live P new (hold_after old records new put (live_from_bounds P old (All-right P base (live_bounds old) before)) (All-right P (base ++ live_bounds old) (bounds_in records) all))))
        (All-nil P)

    all_before : All P ((base ++ live_bounds new) ++ []) → All P ((base ++ live_bounds old) ++ bounds_in records)
    all_before all =
        let after = All-left P (base ++ live_bounds new) [] all in
        let back = hold_before old records new put (live_from_bounds P new (All-right P base (live_bounds new) after)) in
        All-append P (base ++ live_bounds old) (bounds_in records)
        (All-append P base (live_bounds old) (All-left P base (live_bounds new) after) (bounds_from_live P old back.0)) back.1

-- what a site holds once it added its guard needs no further one
pub guards_held : {owner : ℕ → ℕ} (site : ℕ) (base : List Difference) (old : Content) (records : List Numbered) (new : Content) → AllPut site old records new
    → Guards owner (base ++ live_bounds old) (bounds_in records) → Guards owner (base ++ live_bounds new) []
guards_held {owner} site base old records new put guards = record {
  single = All-nil _;
  possible = (guards.possible.0, record { origin = guards.possible.1.origin; met = all_after (Meets guards.possible.0) site base old records new put guards.possible.1.met });
  enough = λ time own.
      let whole = guards.enough time (λ at.
      let its = own at in record {
        origin = its.origin;
        met = All-filter_passing (is_owned owner at) (Meets time) ((base ++ live_bounds old) ++ bounds_in records)
            (all_before (λ bound. is_owned owner at bound ≡ true → Meets time bound) site base old records new put
            (All-passing (is_owned owner at) (Meets time) ((base ++ live_bounds new) ++ []) its.met));
      }) in
      record { origin = whole.origin; met = all_after (Meets time) site base old records new put whole.met };
}

pub added_guards : (owner : ℕ → ℕ) (old new : Held) (bounds : List Difference) (ids : List SiteCounter) → AddsEach old bounds ids new
    → Guards owner (all_bounds old.source old.state) bounds → Guards owner (all_bounds new.source new.state) []
added_guards owner old new bounds ids adds guards =
    let back = put_from old new adds.records adds.leave in
    subst (λ (source : PlanSource). Guards owner (all_bounds source new.state) []) (sym back.1)
    (guards_held old.site (base_bounds old.source) old.state adds.records new.state back.0
    (subst (Guards owner (all_bounds old.source old.state)) adds.bounds_are guards))

-- a site that took a content to which it put records has added them
pub took_each : {old new : Held} {all : Content} {bounds : List Difference} {ids : List SiteCounter} → PutsEach old.site old.state bounds ids all → Leaves old (took all) new
    → (IsPart all old.state → new ≡ old) → AddsEach old bounds ids new
took_each puts leaves again = search (rules, absorbed, put_part, adds_all)
