-- An id that is replaced is withdrawn, or some record replaces it.
use Rattle.std.{proofs.{Common.{rules, ◌≡◌, ◌⊎◌, inl, inr, ⊎_elim, Bool, true, false, cond, ◌||◌, List, [], ◌∷◌, map, ℕ, ◌+◌, ◌<◌, get_or, drop, Option, Some, None, is_some, length, sym, refl, ap, subst, ◌∙◌, All}, lemmas.{Bool.{false≢true, or_left, or_right, or_cases}, List.{drop_more, Elements.{All-head, All-tail}, Sorted.list_any-IsPermutation}, Option.same_Some}, Math.Bool.or_assoc}, specs.{Ordering.eq_by_cmp, FinMap.{get-empty, get-insert, get-entries}, List.Sorted.IsPermutation, Set.is_member, Option.option_or}}
use Rattle.std.specs.FinMap as fin
use Rattle.stn_records.{specs.{Id.{SiteCounter, id_cmp, same_ids}, Maps.union, MapLaws.get-union, Content.{Content, Item, IdSet, ReplacementMap, withdrawal, replacement, HasItem, dispute_contents, joined_contents, is_replaced, replaced_set, with_ids, with_tombstone, with_amendment}, ContentLaws.{ids_total, ids_exact, ids_decide, contents_join, contents_undisputed}}, proofs.{Gets.entries_from_get, Places.nothing_listed, OneItem.{gone, inserted_value, inserted_here, kept_value}}}
use Rattle.stn_net.specs.Difference.{Difference}

pub inserted_key : (m : IdSet) (id q : SiteCounter) → fin.contains_key (fin.insert m id tt) q ≡ (same_ids q id || fin.contains_key m q)
inserted_key m id q = ap is_some (get-insert ids_total m id tt q) ∙ by (same_ids q id)
  where
    by : (b : Bool) → is_some (cond b (Some tt) (fin.get m q)) ≡ (b || fin.contains_key m q)
    by true = refl
    by false = refl

pub with_ids_member : (m : IdSet) (ids : List SiteCounter) (q : SiteCounter) → fin.contains_key (with_ids m ids) q ≡ (is_member same_ids ids q || fin.contains_key m q)
with_ids_member m [] q = refl
with_ids_member m (id ∷ ids) q =
    cc (inserted_key (with_ids m ids) id q, with_ids_member m ids q, or_assoc (same_ids q id) (is_member same_ids ids q) (fin.contains_key m q))

value_entry : (es : List (SiteCounter × SiteCounter)) (P : SiteCounter → SiteCounter → Type 0) (q : SiteCounter) → All (λ e. P e.0 e.1) es
    → is_member same_ids (map (λ e. e.1) es) q ≡ true → (other : SiteCounter) × P other q
value_entry [] P q all there = absurd (false≢true there)
value_entry (e ∷ es) P q all there = ⊎_elim
    (λ here. (e.0, subst (P e.0) (sym ((ids_decide q e.1).0 here)) (All-head (λ e. P e.0 e.1) e es all)))
    (λ later. value_entry es P q (All-tail (λ e. P e.0 e.1) e es all) later)
    (or_cases _ _ there)

found_value : (es : List (SiteCounter × SiteCounter)) (k q : SiteCounter) → fin.find id_cmp k es ≡ Some q → is_member same_ids (map (λ e. e.1) es) q ≡ true
found_value [] k q e = absurd (false≢true (ap is_some e))
found_value (x ∷ es) k q e = elim (eq_by_cmp id_cmp k x.0) as (λ b. cond b (Some x.1) (fin.find id_cmp k es) ≡ Some q → (same_ids q x.1 || is_member same_ids (map (λ e. e.1) es) q) ≡ true) [
  | true ↦ λ is. or_left _ _ ((ids_decide q x.1).1 (sym (same_Some x.1 q is)))
  | false ↦ λ is. or_right _ _ (found_value es k q is)
] e

pub replaced_cases : (s : Content) (id : SiteCounter) → is_replaced s id ≡ true → HasItem s (withdrawal id) ⊎ ((other : SiteCounter) × HasItem s (replacement other id))
replaced_cases s id e = ⊎_elim
    (λ member. inr (value_entry (fin.entries s.replacements) (λ other old. fin.get s.replacements other ≡ Some old) id
    (entries_from_get ids_total ids_exact s.replacements (λ e. fin.get s.replacements e.0 ≡ Some e.1) (λ q v there. there)) member))
    (λ there. inl (gone (fin.get s.tombstones id) there))
    (or_cases _ _ (sym (with_ids_member s.tombstones (fin.values s.replacements) id) ∙ e))

pub replaced_by_withdrawal : (s : Content) (id : SiteCounter) → HasItem s (withdrawal id) → is_replaced s id ≡ true
replaced_by_withdrawal s id there = search (rules, with_ids_member)

pub replaced_by_entry : (s : Content) (id old : SiteCounter) → HasItem s (replacement id old) → is_replaced s old ≡ true
replaced_by_entry s id old there =
    with_ids_member s.tombstones (fin.values s.replacements) old ∙ or_left _ _ (found_value (fin.entries s.replacements) id old (sym (get-entries s.replacements id) ∙ there))

-- a content with fewer items replaces no more ids
pub replaced_fewer : (s t : Content) → ((item : Item) → HasItem s item → HasItem t item) → (q : SiteCounter) → is_replaced s q ≡ true → is_replaced t q ≡ true
replaced_fewer s t h q e = ⊎_elim
    (λ w. replaced_by_withdrawal t q (h (withdrawal q) w))
    (λ w. replaced_by_entry t w.0 q (h (replacement w.0 q) w.1))
    (replaced_cases s q e)

-- two tests that imply each other are one
pub same_tests : (b c : Bool) → (b ≡ true → c ≡ true) → (c ≡ true → b ≡ true) → b ≡ c
same_tests b c f g = search rules

-- sets with the same ids are one
pub same_sets : (a b : IdSet) → ((q : SiteCounter) → fin.contains_key a q ≡ fin.contains_key b q) → a ≡ b
same_sets a b h = fin.same_map ids_total ids_exact a b (λ q. units (fin.get a q) (fin.get b q) (h q))
  where
    units : (o p : Option (Unit {0})) → is_some o ≡ is_some p → o ≡ p
    units None None e = refl
    units None (Some y) e = absurd (false≢true e)
    units (Some x) None e = absurd (false≢true (sym e))
    units (Some x) (Some y) e = refl

union_key : (a b : IdSet) (q : SiteCounter) → fin.contains_key (union a b) q ≡ (fin.contains_key a q || fin.contains_key b q)
union_key a b q = ap is_some (get-union ids_total ids_exact a b q) ∙ by (fin.get a q)
  where
    by : (o : Option (Unit {0})) → is_some (option_or o (fin.get b q)) ≡ (is_some o || fin.contains_key b q)
    by None = refl
    by (Some x) = refl

-- the replaced ids of a join are those of both
module _ (s t : Content) (none : dispute_contents s t ≡ None) where
  pub items : (item : Item) → HasItem (joined_contents s t) item → HasItem s item ⊎ HasItem t item
  items item = (contents_join.union s t (joined_contents s t) (contents_undisputed s t none) item).0

  pub items_back : (item : Item) → HasItem s item ⊎ HasItem t item → HasItem (joined_contents s t) item
  items_back item = (contents_join.union s t (joined_contents s t) (contents_undisputed s t none) item).1

  pub replaced_in_join : (q : SiteCounter) → is_replaced (joined_contents s t) q ≡ (is_replaced s q || is_replaced t q)
  replaced_in_join q = same_tests _ _
      (λ e. ⊎_elim
      (λ w. ⊎_elim (λ h. or_left _ _ (replaced_by_withdrawal s q h)) (λ h. or_right _ _ (replaced_by_withdrawal t q h)) (items (withdrawal q) w))
      (λ w. ⊎_elim (λ h. or_left _ _ (replaced_by_entry s w.0 q h)) (λ h. or_right _ _ (replaced_by_entry t w.0 q h)) (items (replacement w.0 q) w.1))
      (replaced_cases (joined_contents s t) q e))
      (λ e. ⊎_elim
      (replaced_fewer s (joined_contents s t) (λ item h. items_back item (inl h)) q)
      (replaced_fewer t (joined_contents s t) (λ item h. items_back item (inr h)) q)
      (or_cases _ _ e))

  pub replaced_joined : union (replaced_set s) (replaced_set t) ≡ replaced_set (joined_contents s t)
  replaced_joined = search (rules, same_sets, union_key, replaced_in_join)

pub or_swap : (a b c : Bool) → (a || (b || c)) ≡ (b || (a || c))
or_swap a b c = search rules

-- to put in an id before or after others is the same
pub put_before : (t : IdSet) (ids : List SiteCounter) (id : SiteCounter) → fin.insert (with_ids t ids) id tt ≡ with_ids (fin.insert t id tt) ids
put_before t ids id = search (rules, same_sets, inserted_key, with_ids_member)

-- the first id of the rest may be put in first
pub put_next : (all new : IdSet) (ids : List SiteCounter) (i : ℕ) (id : SiteCounter) → i < length ids → new ≡ fin.insert all (get_or ids i id) tt → with_ids new (drop (i + 1) ids) ≡ with_ids all (drop i ids)
put_next all new ids i id within is = search (rules, put_before, drop_more)

-- sorted ids, put into a set of their own, and the union with that
pub put_in_order : (t set all : IdSet) (ids copy sorted read : List SiteCounter) → copy ≡ ids → IsPermutation copy sorted → read ≡ sorted → set ≡ with_ids fin.empty read → all ≡ union t set → all ≡ with_ids t ids
put_in_order t set all ids copy sorted read same moved is made united = united ∙ same_sets (union t set) (with_ids t ids) (λ q. union_key t set q
    ∙ ap (λ b. fin.contains_key t q || b) (members q)
    ∙ turned (fin.contains_key t q) (is_member same_ids ids q)
    ∙ sym (with_ids_member t ids q))
  where
    turned : (a b : Bool) → (a || (b || false)) ≡ (b || a)
    turned a b = search rules

    members : (q : SiteCounter) → fin.contains_key set q ≡ (is_member same_ids ids q || false)
    members q = cc (with_ids_member fin.empty read q, list_any-IsPermutation (same_ids q) copy sorted moved, ap is_some (get-empty {X = Unit {0}} id_cmp q))

-- with one more id withdrawn
pub replaced_withdrawn : (s : Content) (id : SiteCounter) → fin.insert (replaced_set s) id tt ≡ replaced_set (with_tombstone s id)
replaced_withdrawn s id = search (rules, put_before)

-- with one more amendment, whose id replaces no other id
pub replaced_amended : (s : Content) (id old : SiteCounter) (bound : Difference) → ((z : SiteCounter) → fin.get s.replacements id ≡ Some z → z ≡ old) → fin.insert (replaced_set s) old tt ≡ replaced_set (with_amendment s id old bound)
replaced_amended s id old bound agrees = same_sets _ _ (λ q. inserted_key (replaced_set s) old q ∙ same_tests _ _ (more q) (cases q))
  where
    more : (q : SiteCounter) → (same_ids q old || is_replaced s q) ≡ true → is_replaced (with_amendment s id old bound) q ≡ true
    more q e = ⊎_elim
        (λ here. replaced_by_entry (with_amendment s id old bound) id q (inserted_here s.replacements id old ∙ ap Some (sym ((ids_decide q old).0 here))))
        (λ there. ⊎_elim
        (λ w. replaced_by_withdrawal (with_amendment s id old bound) q w)
        (λ w. replaced_by_entry (with_amendment s id old bound) w.0 q (kept_value s.replacements id old w.0 q agrees w.1))
        (replaced_cases s q there))
        (or_cases _ _ e)

    cases : (q : SiteCounter) → is_replaced (with_amendment s id old bound) q ≡ true → (same_ids q old || is_replaced s q) ≡ true
    cases q e = ⊎_elim
        (λ w. or_right _ _ (replaced_by_withdrawal s q w))
        (λ w. ⊎_elim (λ here. or_left _ _ ((ids_decide q old).1 (sym here.1))) (λ there. or_right _ _ (replaced_by_entry s w.0 q there)) (inserted_value s.replacements id old w.0 q w.1))
        (replaced_cases (with_amendment s id old bound) q e)

-- without entries the withdrawn ids alone are replaced
pub replaced_of_nothing : (t : IdSet) → (let none : ReplacementMap = fin.empty in with_ids t (fin.values none) ≡ t)
replaced_of_nothing t = cc (nothing_listed SiteCounter)

-- the set of replaced ids that is kept beside the three parts stays theirs
pub kept_by_nothing : (t w : IdSet) (r : ReplacementMap) → t ≡ fin.empty → r ≡ fin.empty → w ≡ fin.empty → w ≡ with_ids t (fin.values r)
kept_by_nothing t w r p q is = search (rules, replaced_of_nothing)

pub kept_by_withdrawal : (t w new more : IdSet) (r : ReplacementMap) (id : SiteCounter) → w ≡ with_ids t (fin.values r) → new ≡ fin.insert t id tt → more ≡ fin.insert w id tt → more ≡ with_ids new (fin.values r)
kept_by_withdrawal t w new more r id kept p q = cc (put_before t (fin.values r) id)

pub kept_by_amendment : (s : Content) (w more : IdSet) (new : ReplacementMap) (id old : SiteCounter) (bound : Difference) → w ≡ replaced_set s → fin.get s.replacements id ≡ None → new ≡ fin.insert s.replacements id old → more ≡ fin.insert w old tt → more ≡ with_ids s.tombstones (fin.values new)
kept_by_amendment s w more new id old bound kept none p q =
    cc (replaced_amended s id old bound (λ z e. absurd (false≢true (ap is_some (sym none ∙ e)))))

pub kept_by_union : (s t : Content) (w v tombstones all : IdSet) (replacements : ReplacementMap) → w ≡ replaced_set s → v ≡ replaced_set t → dispute_contents s t ≡ None → tombstones ≡ union s.tombstones t.tombstones → replacements ≡ union s.replacements t.replacements → all ≡ union w v → all ≡ with_ids tombstones (fin.values replacements)
kept_by_union s t w v tombstones all replacements ours theirs none p q is = search (rules, replaced_joined)
