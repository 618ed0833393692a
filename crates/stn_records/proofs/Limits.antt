-- How many ids a content knows after a change, and how many two know together.
use Rattle.std.{proofs.{Common.{rules, ◌≡◌, ◌+◌, ◌<◌, ◌≤◌, Bool, true, false, cond, ◌||◌, List, [], ◌∷◌, ◌++◌, length, Option, Some, None, is_some, is_eq, sym, refl, ap, ◌∙◌, arith, length-append}, lemmas.{Bool.{false≢true, and_parts}, Map.{Made.distinct_count-le, Entries.length-keys_of}}}, specs.{FinMap.{FinMap, contains_key-keys, is_sorted, get-empty, get-insert, Entries.below_all}, Map.keys_of, Option.option_or, List.{IsDistinct, AllByRecursion}, Set.{distinct_count, is_member}}}
use Rattle.stn_net.specs.Difference.{Difference}
use Rattle.stn_records.{specs.{Content.{most_known, Content, Item, addition, withdrawal, replacement, HasItem, same_ids, known_ids, known_count, known_in_either, is_known, is_replaced, replaced_set, dispute_contents, joined_contents, part_of, plain, with_record, with_tombstone, with_amendment, no_content, AllAmend}, ContentLaws.{ids_total, ids_exact}, Id.{SiteCounter, id_cmp}, declared.record.Record.Record, MapLaws.get-union}, proofs.{Entries.{less_is, in_order}, Proper.retained_value, KnownIds.{fewer, same_count, member-append, known_member, known_fewer, keys_within}, Replaced.{or_swap, inserted_key, replaced_by_withdrawal, replaced_in_join, replaced_withdrawn, replaced_amended, replaced_of_nothing}}}
use Rattle.std.specs.FinMap as fin

keys_apart : {X : Type 0} (x : SiteCounter) (es : List (SiteCounter × X)) → below_all id_cmp x es ≡ true → AllByRecursion (λ y. same_ids x y ≡ false) (keys_of es)
keys_apart x [] h = tt
keys_apart x (e ∷ es) h = (ap is_eq (less_is (id_cmp x e.0) (and_parts _ _ h).0), keys_apart x es (and_parts _ _ h).1)

keys_distinct : {X : Type 0} (es : List (SiteCounter × X)) → is_sorted id_cmp es ≡ true → IsDistinct same_ids (keys_of es)
unfolding IsDistinct
keys_distinct [] h = tt
keys_distinct (e ∷ es) h = (keys_apart e.0 es (and_parts _ _ h).0, keys_distinct es (and_parts _ _ h).1)

-- a map whose keys are known has at most as many entries as there are known ids
within : {X : Type 0} (m : FinMap id_cmp X) (s : Content) → ((q : SiteCounter) → fin.contains_key m q ≡ true → is_known s q ≡ true) → length (fin.entries m) ≤ known_count s
within m s among =
    let fewer = keys_within (fin.keys m) (known_ids s) (keys_distinct (fin.entries m) (in_order m)) (λ q k. known_member s q ∙ among q (contains_key-keys m q ∙ k)) in
    omega (arith, length-keys_of (fin.entries m), fewer)

pub additions_within : (s : Content) → length (fin.entries s.additions) ≤ known_count s
additions_within s = search (rules, within)

pub replaced_within : (s : Content) → length (fin.entries (replaced_set s)) ≤ known_count s
replaced_within s = search (rules, within)

-- an entry of an amendment belongs to a record
pub replacements_within : (s : Content) → AllAmend s → length (fin.entries s.replacements) ≤ known_count s
replacements_within s amends = search (rules, within)

pub tombstones_within : (s : Content) → length (fin.entries s.tombstones) ≤ known_count s
tombstones_within s = search (rules, within, replaced_by_withdrawal)

-- and no more ids are known than both parts have entries
pub known_within : (s : Content) → known_count s ≤ length (fin.entries s.additions) + length (fin.entries (replaced_set s))
known_within s = search (rules, distinct_count-le, length-append, length-keys_of)

-- what the join of two contents knows is what they know together
pub together : (s t : Content) → dispute_contents s t ≡ None → known_count (joined_contents s t) ≡ known_in_either s t
together s t none = same_count (known_ids (joined_contents s t)) (known_ids s ++ known_ids t) (λ q.
    known_member (joined_contents s t) q
    ∙ (λ i. is_some (get-union ids_total ids_exact s.additions t.additions q i) || replaced_in_join s t none q i)
    ∙ regrouped (fin.get s.additions q) (fin.get t.additions q) (is_replaced s q) (is_replaced t q)
    ∙ (λ i. sym (known_member s q) i || sym (known_member t q) i)
    ∙ sym (member-append (known_ids s) (known_ids t) q))
  where
    regrouped : (a b : Option Record) (c d : Bool) → (is_some (option_or a b) || (c || d)) ≡ ((is_some a || c) || (is_some b || d))
    regrouped None None c d = refl
    regrouped None (Some b) true d = refl
    regrouped None (Some b) false d = refl
    regrouped (Some a) b c d = refl

-- a known id more or less: with a new one the count is one more, with a known one the same
with_member : (s : Content) (id : SiteCounter) (r : Record) (q : SiteCounter) → is_known (with_record s id r) q ≡ (same_ids q id || is_known s q)
with_member s id r q = ap (λ o. is_some o || is_replaced s q) (get-insert ids_total s.additions id r q) ∙ by (same_ids q id) (fin.get s.additions q)
  where
    by : (b : Bool) (o : Option Record) → (is_some (cond b (Some r) o) || is_replaced s q) ≡ (b || (is_some o || is_replaced s q))
    by true o = refl
    by false o = refl

tombed_member : (s : Content) (id : SiteCounter) (q : SiteCounter) → is_known (with_tombstone s id) q ≡ (same_ids q id || is_known s q)
tombed_member s id q =
    cc (replaced_withdrawn s id, inserted_key (replaced_set s) id q, or_swap (fin.contains_key s.additions q) (same_ids q id) (is_replaced s q))

-- an amendment is known by both its ids
amended_member : (s : Content) (id old : SiteCounter) (bound : Difference) → ((z : SiteCounter) → fin.get s.replacements id ≡ Some z → z ≡ old) → (q : SiteCounter) → is_known (with_amendment s id old bound) q ≡ (same_ids q id || (same_ids q old || is_known s q))
amended_member s id old bound agrees q =
    cc (replaced_amended s id old bound agrees, inserted_key (replaced_set s) old q, or_swap (fin.contains_key (fin.insert s.additions id (plain bound)) q) (same_ids q old) (is_replaced s q), with_member s id (plain bound) q, or_swap (same_ids q old) (same_ids q id) (is_known s q))

-- an id more counts where it is not among the others
counted : (x : SiteCounter) (xs : List SiteCounter) (b : Bool) → is_member same_ids xs x ≡ b → distinct_count same_ids (x ∷ xs) ≡ distinct_count same_ids xs + cond b 0 1
counted x xs b e = search rules

-- how many ids are known with an amendment
pub amended_count : (s : Content) (id old : SiteCounter) (bound : Difference) → ((z : SiteCounter) → fin.get s.replacements id ≡ Some z → z ≡ old) → same_ids id old ≡ false → known_count (with_amendment s id old bound) ≡ known_count s + cond (is_known s old) 0 1 + cond (is_known s id) 0 1
amended_count s id old bound agrees apart =
    let both = same_count (known_ids (with_amendment s id old bound)) (id ∷ old ∷ known_ids s) (λ q. known_member (with_amendment s id old bound) q ∙ amended_member s id old bound agrees q ∙ ap (λ m. same_ids q id || (same_ids q old || m)) (sym (known_member s q))) in
    let first = counted id (old ∷ known_ids s) (is_known s id) (ap (λ b. b || is_member same_ids (known_ids s) id) apart ∙ known_member s id) in
    let second = counted old (known_ids s) (is_known s old) (known_member s old) in
    cc

-- a content with one id more, known or not
module _ (s t : Content) (id : SiteCounter) (more : (q : SiteCounter) → is_known t q ≡ (same_ids q id || is_known s q)) where
  cons_count : distinct_count same_ids (id ∷ known_ids s) ≡ known_count t
  cons_count = same_count (id ∷ known_ids s) (known_ids t) (λ q. ap (λ m. same_ids q id || m) (known_member s q) ∙ sym (more q) ∙ sym (known_member t q))

  known_more : (b : Bool) → is_known s id ≡ b → (b ≡ false → known_count s < most_known) → known_count s ≤ most_known → known_count t ≤ most_known
  known_more b k room most = search (rules, known_member, cons_count)

pub record_limited : (s : Content) (id : SiteCounter) (r : Record) → (is_known s id ≡ false → known_count s < most_known) → known_count s ≤ most_known → known_count (with_record s id r) ≤ most_known
record_limited s id r room most = known_more s (with_record s id r) id (with_member s id r) (is_known s id) refl room most

pub tombstone_limited : (s : Content) (id : SiteCounter) → (is_known s id ≡ false → known_count s < most_known) → known_count s ≤ most_known → known_count (with_tombstone s id) ≤ most_known
tombstone_limited s id room most = known_more s (with_tombstone s id) id (tombed_member s id) (is_known s id) refl room most

pub part_limited : (s : Content) (records tombstones : List SiteCounter) → known_count (part_of s records tombstones) ≤ known_count s
part_limited s records tombstones = known_fewer (part_of s records tombstones) s below
  where
    below : (item : Item) → HasItem (part_of s records tombstones) item → HasItem s item
    below (addition id r) h = retained_value s.additions (λ id. is_member same_ids records id) id r h
    below (withdrawal id) h = retained_value s.tombstones (λ id. is_member same_ids tombstones id) id tt h
    below (replacement id old) h = retained_value s.replacements (λ id. is_member same_ids records id) id old h

nothing_known : (q : SiteCounter) → is_member same_ids (known_ids no_content) q ≡ false
nothing_known q = known_member no_content q
    ∙ (λ i. is_some (get-empty {X = Record} id_cmp q i) || fin.contains_key (replaced_of_nothing fin.empty i) q)
    ∙ ap is_some (get-empty {X = Unit {0}} id_cmp q)

pub empty_limited : known_count no_content ≤ most_known
empty_limited = let none = fewer (known_ids no_content) [] (λ q m. absurd (false≢true (sym (nothing_known q) ∙ m))) in omega (arith, none)

-- two contents know together no more ids than all four parts have entries
pub known_together : (s t : Content) → known_in_either s t ≤ (length (fin.entries s.additions) + length (fin.entries (replaced_set s))) + (length (fin.entries t.additions) + length (fin.entries (replaced_set t)))
known_together s t = search (rules, distinct_count-le, length-append, length-keys_of)
