-- The greatest counter of a site, in a list in order and in a content, and the next one.
use Rattle.std.{proofs.{Common.{rules, ◌≡◌, ℕ, zero, suc, ◌<◌, ◌≤◌, ◌-◌, ◌⊎◌, true, false, cond, max, List, [], ◌∷◌, length, get_or, take, Less, sym, refl, ap, ◌∙◌, arith, eqb, nat_le, ◌+◌, ◌↔◌, ◌++◌, Option, ⊎_elim, Result, IfOk, IsErr}, lemmas.{List.get_or-take, Bool.{false_from_ne_true, false≢true, eq-eqb, and_parts, or_cases, Decides.nat_tests}}}, specs.{List.Sorted.{IsNonDecreasingBy, IsPartitionPoint}, FinMap.is_sorted, Map.keys_of, Option.{SomeIff, ok_or}, Cmp.Equal-is, Set.is_member}}
use Rattle.stn_records.{specs.{Id.{SiteCounter, id_cmp}, Sorted.IsEndOf, ContentLaws.{ids_total, ids_exact}, declared.record.Record.Record, Content.{greatest_counter, next_counter, Content, same_ids, known_ids, is_known, replaced_set}}, proofs.{Entries.above_at, KnownIds.known_member}}
use Rattle.std.specs.FinMap as fin

-- a lesser id is of a lesser site, or has a lesser counter
lesser_id : (a b : SiteCounter) → id_cmp a b ≡ Less → (a.site < b.site) ⊎ ((a.site ≡ b.site) × (a.counter < b.counter))
lesser_id a b h = grind arith

-- before the last id up to the site, a lesser one changes nothing
step_before : (site : ℕ) (id last : SiteCounter) (greatest : ℕ) → (id.site < last.site) ⊎ ((id.site ≡ last.site) × (id.counter < last.counter)) → last.site ≤ site → greatest ≡ cond (eqb last.site site) last.counter 0 → cond (eqb id.site site) (max id.counter greatest) greatest ≡ cond (eqb last.site site) last.counter 0
step_before site id last greatest lesser within is = grind arith

module _ {X : Type 0} (site : ℕ) where
  -- where each id is of a greater site, there is none of the site
  none_of_site : (es : List (SiteCounter × X)) → ((k : ℕ) (d : SiteCounter × X) → k < length es → site < (get_or es k d).0.site) → greatest_counter site (keys_of es) ≡ 0
  none_of_site [] behind = refl
  none_of_site (e ∷ es) behind =
      let first = behind 0 e (omega arith) in
      let rest : greatest_counter site (keys_of es) ≡ 0 = none_of_site es (λ k d l. behind (suc k) d (omega arith)) in
      grind (arith, nat_tests)

  -- the last entry whose site is not above the site has its greatest counter, where it is of the site
  last_of_site : (es : List (SiteCounter × X)) → is_sorted id_cmp es ≡ true → (end : ℕ) (d : SiteCounter × X) → end < length es → ((k : ℕ) (d : SiteCounter × X) → k ≤ end → (get_or es k d).0.site ≤ site) → ((k : ℕ) (d : SiteCounter × X) → end < k → k < length es → site < (get_or es k d).0.site) → greatest_counter site (keys_of es) ≡ cond (eqb (get_or es end d).0.site site) (get_or es end d).0.counter 0
  last_of_site [] h end d within before behind = absurd (omega arith)
  last_of_site (e ∷ es) h zero d within before behind =
      let rest : greatest_counter site (keys_of es) ≡ 0 = none_of_site es (λ k d l. behind (suc k) d (omega arith) (omega arith)) in
      grind (arith, nat_tests)
  last_of_site (e ∷ es) h (suc end) d within before behind =
      step_before site e.0 (get_or es end d).0 (greatest_counter site (keys_of es))
      (lesser_id e.0 (get_or es end d).0 (above_at ids_total e.0 es (and_parts _ _ h).0 end d (omega arith)))
      (before (suc end) d (omega arith))
      (last_of_site es (and_parts _ _ h).1 end d (omega arith) (λ k d l. before (suc k) d (omega arith)) (λ k d l m. behind (suc k) d (omega arith) (omega arith)))

  -- the sites of a list in order do not fall
  pub sites_rise : (es : List (SiteCounter × X)) → is_sorted id_cmp es ≡ true → IsNonDecreasingBy (λ e. e.0.site) es
  sites_rise [] h i j d low high = absurd (omega arith)
  sites_rise (e ∷ es) h zero zero d low high = omega arith
  sites_rise (e ∷ es) h zero (suc j) d low high =
      let above = lesser_id e.0 (get_or es j d).0 (above_at ids_total e.0 es (and_parts _ _ h).0 j d (omega arith)) in
      grind arith
  sites_rise (e ∷ es) h (suc i) zero d low high = absurd (omega arith)
  sites_rise (e ∷ es) h (suc i) (suc j) d low high = sites_rise es (and_parts _ _ h).1 i j d (omega arith) (omega arith)

  -- where a search for the last entry up to the site ends
  pub ends : (es : List (SiteCounter × X)) (end : ℕ) → end ≤ length es → IsPartitionPoint (λ e. nat_le e.0.site site ≡ true) (λ e. nat_le e.0.site site ≡ false) es end → IsEndOf es site end
  ends es end within parted = search rules

  -- the same, as the entry is read
  pub counter_of_last : (es : List (SiteCounter × X)) → is_sorted id_cmp es ≡ true → (end : ℕ) → IsEndOf es site end → (last : SiteCounter × X) → 0 < length (take end es) → last ≡ get_or (take end es) (length (take end es) - 1) last → cond (eqb last.0.site site) last.0.counter 0 ≡ greatest_counter site (keys_of es)
  counter_of_last es h end is last there read = search (rules, get_or-take, last_of_site)

  pub counter_of_none : (es : List (SiteCounter × X)) (end : ℕ) → IsEndOf es site end → length (take end es) ≤ 0 → 0 ≡ greatest_counter site (keys_of es)
  counter_of_none es end is none = search (rules, none_of_site)

-- the greatest counter of two lists
pub greatest-append : (site : ℕ) (xs ys : List SiteCounter) → greatest_counter site (xs ++ ys) ≡ max (greatest_counter site xs) (greatest_counter site ys)
greatest-append site [] ys = omega arith
greatest-append site (x ∷ xs) ys = elim (eqb x.site site) as (λ b. cond b (max x.counter (greatest_counter site (xs ++ ys))) (greatest_counter site (xs ++ ys)) ≡ max (cond b (max x.counter (greatest_counter site xs)) (greatest_counter site xs)) (greatest_counter site ys)) [
  | true ↦ omega (arith, greatest-append site xs ys)
  | false ↦ greatest-append site xs ys
]

counter_below : (site : ℕ) (ids : List SiteCounter) (id : SiteCounter) → id.site ≡ site → is_member same_ids ids id ≡ true → id.counter ≤ greatest_counter site ids
counter_below site [] id s e = absurd (false≢true e)
counter_below site (x ∷ ids) id s e = ⊎_elim
    (λ here. let same = ids_exact id x ((Equal-is (id_cmp id x)).0 here) in
    elim (eqb x.site site) as (λ b. eqb x.site site ≡ b → id.counter ≤ cond b (max x.counter (greatest_counter site ids)) (greatest_counter site ids)) [
      | true ↦ λ t. let c : id.counter ≡ x.counter = ap (λ (i : SiteCounter). i.counter) same in omega arith
      | false ↦ λ t. absurd (false≢true (sym t ∙ eq-eqb x.site site (ap (λ (i : SiteCounter). i.site) (sym same) ∙ s)))
    ] refl)
    (λ there. let below = counter_below site ids id s there in
    elim (eqb x.site site) as (λ b. id.counter ≤ cond b (max x.counter (greatest_counter site ids)) (greatest_counter site ids)) [ true ↦ omega arith | false ↦ below ])
    (or_cases _ _ e)

-- the next counter of a site is new
pub next_is_new : (s : Content) (site counter : ℕ) → counter ≡ next_counter s site → is_known s (record { site = site; counter = counter }) ≡ false
next_is_new s site counter is = false_from_ne_true _ (λ known.
    let below = counter_below site (known_ids s) (record { site = site; counter = counter }) refl (known_member s _ ∙ known) in
    omega (arith, below, is))

-- one more than the greatest counter of the additions and the replaced ids
pub counter_read : (s : Content) (site : ℕ) (es : List (SiteCounter × Record)) (ts : List (SiteCounter × Unit {0})) → es ≡ fin.entries s.additions → ts ≡ fin.entries (replaced_set s) → (a b m : ℕ) → a ≡ greatest_counter site (keys_of es) → b ≡ greatest_counter site (keys_of ts) → m ≡ max a b → m + 1 ≡ next_counter s site
counter_read s site es ts p q a b m ga gb gm = search (rules, greatest-append)

-- a counter that fits is the next one, and one that doesn't is spent
pub next_cases : {E : Type 0} (o : Option ℕ) (err : E) (r : Result ℕ E) (m n : ℕ) → m + 1 ≡ n → SomeIff o (m + 1 < 65536) (m + 1) → r ≡ ok_or o err → IfOk r (λ counter. counter ≡ n) × (IsErr r ↔ (65535 < n))
next_cases o err r m n e h is = search rules

pub new_cases : {E : Type 0} (s : Content) (site : ℕ) (r : Result ℕ E) → IfOk r (λ counter. counter ≡ next_counter s site) → IfOk r (λ counter. is_known s (record { site = site; counter = counter }) ≡ false)
new_cases s site r e = search (rules, next_is_new)
