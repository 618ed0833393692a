-- A state whose records are numbered from 1 on.
use Rattle.std.{proofs.{Common.{rules, ◌≡◌, ℕ, ◌+◌, ◌<◌, ◌≤◌, max, Bool, true, eqb, not, filter, Ordering, Greater, List, [], ◌∷◌, ◌++◌, map, length, None, is_some, refl, sym, ap, ◌∙◌, arith}, lemmas.{Bool.Decides.nat_tests, List.nil_from_length, Map.Made.distinct_count-le}}, specs.{List.AllByRecursion, FinMap.{empty, entries, entries-insert, len-entries, len-empty, get-empty, contains_key, Entries.put}}}
use Rattle.stn_net.specs.Difference.{Difference}
use Rattle.stn_lift.specs.PlanSource.{PlanSource, bare, steps_of}
use Rattle.stn_records.specs.{Id.{SiteCounter, id_cmp}, declared.record.Record.Record, ContentLaws.ids_total, Content.{Content, no_content, RecordMap, IdSet, with_record, replaced_set, is_replaced, known_ids, next_counter, greatest_counter, same_ids, most_known}}
use Rattle.stn_site.specs.{Held.{Held, plain}, Refusals.next_refusal, Bounds.{bounds_of, live_bounds, all_bounds}}
use Rattle.stn_loosen.specs.{Loosened.bounds_with, Numbered.{numbered, HoldsNumbered}}

-- a key that comes after all others is put last
put_last : {K X : Type 0} (R : K → K → Ordering) (key : K) (value : X) (es : List (K × X)) → AllByRecursion (λ e. R key e.0 ≡ Greater) es → put R key value es ≡ es ++ (key, value) ∷ []
put_last R key value [] all = refl
put_last R key value (e ∷ es) all = rw all.0 (ap (λ l. e ∷ l) (put_last R key value es all.1))

numbered-push : (site counter : ℕ) (bounds : List Difference) (bound : Difference)
    → numbered site counter (bounds ++ bound ∷ []) ≡ numbered site counter bounds ++ (record { site = site; counter = counter + length bounds }, plain bound) ∷ []
numbered-push site counter [] bound = search rules
numbered-push site counter (first ∷ bounds) bound =
    let same : (counter + 1) + length bounds ≡ counter + length (first ∷ bounds) = omega arith in
    cc (numbered-push site (counter + 1) bounds bound)

all_before : (site counter next : ℕ) (bounds : List Difference) → counter + length bounds ≤ next
    → AllByRecursion (λ (e : SiteCounter × Record). id_cmp (record { site = site; counter = next }) e.0 ≡ Greater) (numbered site counter bounds)
all_before site counter next [] most = tt
all_before site counter next (bound ∷ bounds) most = let less : counter < next = omega arith in (search rules, all_before site (counter + 1) next bounds (omega arith))

greatest_numbered : (site before : ℕ) (bounds : List Difference) → max before (greatest_counter site (map (λ (e : SiteCounter × Record). e.0) (numbered site (before + 1) bounds))) ≡ before + length bounds
greatest_numbered site before [] = omega arith
greatest_numbered site before (bound ∷ bounds) =
    let rest = greatest_numbered site (before + 1) bounds in
    let same : eqb site site ≡ true = grind (arith, nat_tests) in
    rw same (omega (arith, rest))

no_entries : {K X : Type 0} (R : K → K → Ordering) → entries (empty {X = X} {R = R}) ≡ []
no_entries {X = X} R = nil_from_length (entries (empty {X = X} {R = R})) (sym (len-entries (empty {X = X} {R = R})) ∙ len-empty R X)

-- such a state replaces nothing, so it knows what was added
none_replaced : (additions : RecordMap) → replaced_set (record no_content { additions = additions }) ≡ empty
none_replaced additions = cc (no_entries id_cmp)

known_alone : (additions : RecordMap) → known_ids (record no_content { additions = additions }) ≡ map (λ (e : SiteCounter × Record). e.0) (entries additions)
known_alone additions = search (rules, no_entries)

known_of : (site : ℕ) (bounds : List Difference) (state : Content) → HoldsNumbered site bounds state → known_ids state ≡ map (λ (e : SiteCounter × Record). e.0) (numbered site 1 bounds)
known_of site bounds state holds = cc (known_alone state.additions)

pub next_of : (site : ℕ) (bounds : List Difference) (state : Content) → HoldsNumbered site bounds state → next_counter state site ≡ length bounds + 1
next_of site bounds state holds =
    let known = known_of site bounds state holds in
    let greatest = greatest_numbered site 0 bounds in
    let zero_one : numbered site (0 + 1) bounds ≡ numbered site 1 bounds = cc in
    search rules

length-numbered : (site counter : ℕ) (bounds : List Difference) → length (map (λ (e : SiteCounter × Record). e.0) (numbered site counter bounds)) ≡ length bounds
length-numbered site counter [] = refl
length-numbered site counter (bound ∷ bounds) = let rest = length-numbered site (counter + 1) bounds in omega (arith, rest)

-- a site that holds fewer bounds than it may can make one more record
pub next_passes : (held : Held) (bounds : List Difference) → HoldsNumbered held.site bounds held.state → length bounds < most_known → next_refusal held ≡ None
next_passes held bounds holds few =
    let next = next_of held.site bounds held.state holds in
    let most = distinct_count-le same_ids (known_ids held.state) in
    let known = ap length (known_of held.site bounds held.state holds) ∙ length-numbered held.site 1 bounds in
    search rules

pub holds_none : (site : ℕ) (state : Content) → state ≡ no_content → HoldsNumbered site [] state
holds_none site state is = search (rules, no_entries)

-- one record more
pub holds_more : (site : ℕ) (bounds : List Difference) (bound : Difference) (old new : Content) → HoldsNumbered site bounds old
    → new ≡ with_record old (record { site = site; counter = next_counter old site }) (plain bound) → HoldsNumbered site (bounds ++ bound ∷ []) new
holds_more site bounds bound old new holds is =
    let next = next_of site bounds old holds in
    let same : next_counter old site ≡ 1 + length bounds = omega (arith, next) in
    let id : SiteCounter = record { site = site; counter = 1 + length bounds } in
    let made : new ≡ with_record old id (plain bound) = cc in
    let holds_now : HoldsNumbered site (bounds ++ bound ∷ []) (with_record old id (plain bound)) = record {
      records = entries-insert ids_total old.additions id (plain bound)
          ∙ ap (put id_cmp id (plain bound)) holds.records
          ∙ put_last id_cmp id (plain bound) (numbered site 1 bounds) (all_before site 1 (1 + length bounds) bounds (omega arith))
          ∙ sym (numbered-push site 1 bounds bound);
      alone = ap (λ (s : Content). with_record s id (plain bound)) holds.alone;
    } in
    search rules

-- all are live, in their order
all_pass : {X : Type 0} (test : X → Bool) → ((x : X) → test x ≡ true) → (xs : List X) → filter test xs ≡ xs
all_pass test passes [] = refl
all_pass test passes (x ∷ xs) = rw (passes x) (ap (λ l. x ∷ l) (all_pass test passes xs))

numbered_bounds : (site counter : ℕ) (bounds : List Difference) → bounds_of (numbered site counter bounds) ≡ bounds
numbered_bounds site counter [] = refl
numbered_bounds site counter (bound ∷ bounds) = cc (numbered_bounds site (counter + 1) bounds)

live_alone : (additions : RecordMap) → live_bounds (record no_content { additions = additions }) ≡ bounds_of (entries additions)
live_alone additions =
    cc (all_pass (λ (e : SiteCounter × Record). not (is_replaced (record no_content { additions = additions }) e.0)) (λ e. ap (λ (set : IdSet). not (contains_key set e.0)) (none_replaced additions) ∙ ap (λ o. not (is_some o)) (get-empty id_cmp e.0)) (entries additions))

-- so all bounds are those of the bare plan and of the records
pub all_are : (source : PlanSource) (site : ℕ) (bounds : List Difference) (state : Content) → HoldsNumbered site bounds state → all_bounds (bare (steps_of source)) state ≡ bounds_with source bounds
all_are source site bounds state holds = search (rules, live_alone, numbered_bounds)
