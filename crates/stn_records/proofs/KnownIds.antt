-- How many ids are known, each counted once.
use Rattle.std.{proofs.{Common.{rules, ◌≡◌, suc, ◌≤◌, Bool, true, false, cond, ◌||◌, List, [], ◌∷◌, ◌++◌, length, Option, Some, is_some, sym, refl, ap, ◌∙◌, ⊎_elim}, lemmas.{Bool.{false≢true, or_left, or_right, or_cases}, Map.Made.length-le_from_is_member, List.Folds.list_any-append}}, specs.{FinMap.contains_key-keys, Cmp.{IsEquivalence, eq_by_cmp_equiv}, List.{IsDistinct, AllByRecursion}, Set.{distinct_count, unique_keys, is_member}}}
use Rattle.stn_records.{specs.{Content.{Content, Item, addition, HasItem, same_ids, known_ids, known_count, is_known, replaced_set, replaced_ids}, ContentLaws.ids_total, Id.SiteCounter}, proofs.Replaced.replaced_fewer}
use Rattle.std.specs.FinMap as fin

laws : IsEquivalence same_ids
laws = eq_by_cmp_equiv ids_total

apart : (x : SiteCounter) (ys : List SiteCounter) → is_member same_ids ys x ≡ false → AllByRecursion (λ y. same_ids x y ≡ false) ys
apart x [] h = tt
apart x (y ∷ ys) h = elim (same_ids x y) as (λ b. same_ids x y ≡ b → (b || is_member same_ids ys x) ≡ false → (same_ids x y ≡ false) × AllByRecursion (λ z. same_ids x z ≡ false) ys) [
  | true ↦ λ t g. absurd (false≢true (sym g))
  | false ↦ λ t g. (t, apart x ys g)
] refl h

member_alike : (xs : List SiteCounter) (q x : SiteCounter) → same_ids q x ≡ true → is_member same_ids xs q ≡ is_member same_ids xs x
member_alike [] q x e i = false
member_alike (y ∷ xs) q x e i = laws.congr q x y e i || member_alike xs q x e i

member_unique : (xs : List SiteCounter) (q : SiteCounter) → is_member same_ids (unique_keys same_ids xs) q ≡ is_member same_ids xs q
member_unique [] q = refl
member_unique (x ∷ xs) q = by (is_member same_ids xs x) (same_ids q x) refl refl (member_unique xs q)
  where
    by : (b c : Bool) → is_member same_ids xs x ≡ b → same_ids q x ≡ c → is_member same_ids (unique_keys same_ids xs) q ≡ is_member same_ids xs q → is_member same_ids (cond b (unique_keys same_ids xs) (x ∷ unique_keys same_ids xs)) q ≡ (c || is_member same_ids xs q)
    by true true m t r = r ∙ member_alike xs q x t ∙ m
    by true false m t r = r
    by false c m t r = rw t (ap (λ v. c || v) r)

distinct : (xs : List SiteCounter) → IsDistinct same_ids (unique_keys same_ids xs)
unfolding IsDistinct
distinct [] = tt
distinct (x ∷ xs) = by (is_member same_ids xs x) refl (distinct xs)
  where
    by : (b : Bool) → is_member same_ids xs x ≡ b → IsDistinct same_ids (unique_keys same_ids xs) → IsDistinct same_ids (cond b (unique_keys same_ids xs) (x ∷ unique_keys same_ids xs))
    by true m r = r
    by false m r = (apart x (unique_keys same_ids xs) (member_unique xs x ∙ m), r)

-- ids that are all among others are no more than those
pub fewer : (xs ys : List SiteCounter) → ((q : SiteCounter) → is_member same_ids xs q ≡ true → is_member same_ids ys q ≡ true) → distinct_count same_ids xs ≤ distinct_count same_ids ys
fewer xs ys h = search (rules, length-le_from_is_member, laws, distinct, member_unique)

-- lists with the same ids have as many
pub same_count : (xs ys : List SiteCounter) → ((q : SiteCounter) → is_member same_ids xs q ≡ is_member same_ids ys q) → distinct_count same_ids xs ≡ distinct_count same_ids ys
same_count xs ys h = search (rules, fewer)

-- an id more that is not among the others
pub one_more : (x : SiteCounter) (xs : List SiteCounter) → is_member same_ids xs x ≡ false → distinct_count same_ids (x ∷ xs) ≡ suc (distinct_count same_ids xs)
one_more x xs e = cc

pub member-append : (xs ys : List SiteCounter) (q : SiteCounter) → is_member same_ids (xs ++ ys) q ≡ (is_member same_ids xs q || is_member same_ids ys q)
member-append xs ys q = list_any-append (same_ids q) xs ys

-- the known ids are those of both parts
pub known_member : (s : Content) (q : SiteCounter) → is_member same_ids (known_ids s) q ≡ is_known s q
known_member s q = member-append (fin.keys s.additions) (replaced_ids s) q
    ∙ (λ i. sym (contains_key-keys s.additions q) i || sym (contains_key-keys (replaced_set s) q) i)

pub there_is : {X : Type 0} (o : Option X) → is_some o ≡ true → (x : X) × (o ≡ Some x)
there_is o e = search rules

-- an item's id is known, and a known id has an item
known_of_item : (s t : Content) → ((item : Item) → HasItem s item → HasItem t item) → (q : SiteCounter) → is_known s q ≡ true → is_known t q ≡ true
known_of_item s t h q k = ⊎_elim
    (λ a. let v = there_is (fin.get s.additions q) a in or_left _ _ (ap is_some (h (addition q v.0) v.1)))
    (λ b. or_right _ _ (replaced_fewer s t h q b))
    (or_cases _ _ k)

-- a content with fewer items knows no more ids
pub known_fewer : (s t : Content) → ((item : Item) → HasItem s item → HasItem t item) → known_count s ≤ known_count t
known_fewer s t h = search (rules, fewer, known_member, known_of_item)

-- a map has at most as many keys as there are known ids
pub keys_within : (xs ys : List SiteCounter) → IsDistinct same_ids xs → ((q : SiteCounter) → is_member same_ids xs q ≡ true → is_member same_ids ys q ≡ true) → length xs ≤ distinct_count same_ids ys
keys_within xs ys d h = search (rules, length-le_from_is_member, laws, member_unique)
