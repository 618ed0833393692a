-- The count of the ids of four lists in order, by the least first id.
use Rattle.std.{proofs.{lemmas.{Grind.common_steps, Bool.{false≢true, and_right, not_from_true, and_parts}}, Common.{rules, ◌≡◌, suc, ◌⊎◌, Bool, true, false, cond, not, ◌&&◌, ◌||◌, List, [], ◌∷◌, ◌++◌, Option, Some, None, is_some, slice_get, Less, Equal, Greater, is_eq, is_lt, sym, refl, ap, subst, ◌∙◌, inl, inr, ⊎_elim, arith}}, specs.{Cmp.{Equal-is, tied_itself}, Set.{distinct_count, is_member}, FinMap.{is_sorted, Entries.below_all}, Map.keys_of}}
use Rattle.stn_records.{specs.{Id.{SiteCounter, id_cmp, lesser_of}, Sorted.{first_key, past_id}, Content.same_ids, ContentLaws.{ids_total, ids_exact, lesser_none}}, proofs.{Entries.{less_is, greater_back, below_less}, KnownIds.{same_count, one_more, member-append}}}

-- the id is not above the first id
abbrev pub NotAbove : SiteCounter → Option SiteCounter → Type 0
NotAbove id None = Unit {0}
NotAbove id (Some x) = is_lt (id_cmp x id) ≡ false

self_not_above : (x : SiteCounter) → is_lt (id_cmp x x) ≡ false
self_not_above x = ap is_lt (tied_itself ids_total x)

-- the lesser of two, where there are two, is one of them
lesser_member : (f g : Option SiteCounter) (id : SiteCounter) → lesser_of f g ≡ Some id → (f ≡ Some id) ⊎ (g ≡ Some id)
lesser_member f g id e = search rules

-- and what is not above it is not above either
not_above_within : (f g : Option SiteCounter) (id : SiteCounter) → NotAbove id (lesser_of f g) → NotAbove id f × NotAbove id g
not_above_within f g id h = grind (arith, common_steps)

dropped : (m t : Bool) → (t ≡ true → m ≡ false) → m ≡ (m && not t)
dropped m t f = search rules

module _ {X : Type 0} where
  -- an id below each entry is no key
  absent_below : (id : SiteCounter) (es : List (SiteCounter × X)) → below_all id_cmp id es ≡ true → is_member same_ids (keys_of es) id ≡ false
  absent_below id [] h = refl
  absent_below id (e ∷ es) h = ap (λ r. is_eq r || is_member same_ids (keys_of es) id) (less_is (id_cmp id e.0) (and_parts _ _ h).0) ∙ absent_below id es (and_parts _ _ h).1

  -- past an id that is not above the first, the list has its other keys
  pub past_members : (id : SiteCounter) (es : List (SiteCounter × X)) → is_sorted id_cmp es ≡ true → NotAbove id (first_key es) → (q : SiteCounter) → is_member same_ids (keys_of (past_id id es)) q ≡ (is_member same_ids (keys_of es) q && not (same_ids q id))
  past_members id [] h n q = refl
  past_members id (e ∷ es) h n q =
      elim (id_cmp e.0 id) as (λ r. id_cmp e.0 id ≡ r → is_lt r ≡ false → is_member same_ids (keys_of (cond (is_eq r) es (e ∷ es))) q ≡ ((same_ids q e.0 || is_member same_ids (keys_of es) q) && not (same_ids q id))) [
        | Less ↦ λ t f. absurd (false≢true (sym f))
        | Equal ↦ λ t f.
            let same = ids_exact e.0 id t in
            dropped (is_member same_ids (keys_of es) q) (same_ids q e.0) (λ s. ap (is_member same_ids (keys_of es)) (ids_exact q e.0 ((Equal-is (id_cmp q e.0)).0 s)) ∙ absent_below e.0 es (and_parts _ _ h).0)
            ∙ unchanged (same_ids q e.0) (is_member same_ids (keys_of es) q)
            ∙ ap (λ z. (same_ids q e.0 || is_member same_ids (keys_of es) q) && not (same_ids q z)) same
        | Greater ↦ λ t f.
            let below : id_cmp id e.0 ≡ Less = greater_back ids_total e.0 id t in
            dropped (same_ids q e.0 || is_member same_ids (keys_of es) q) (same_ids q id) (λ s.
            let same = ids_exact q id ((Equal-is (id_cmp q id)).0 s) in
            ap (λ z. same_ids z e.0 || is_member same_ids (keys_of es) z) same
            ∙ ap (λ r. is_eq r || is_member same_ids (keys_of es) id) below ∙ absent_below id es (below_less ids_total id e.0 es below (and_parts _ _ h).0))
      ] refl n
    where
      unchanged : (t m : Bool) → (m && not t) ≡ ((t || m) && not t)
      unchanged true true = refl
      unchanged true false = refl
      unchanged false m = refl

  -- the first id is a key
  first_member : (id : SiteCounter) (es : List (SiteCounter × X)) → first_key es ≡ Some id → is_member same_ids (keys_of es) id ≡ true
  first_member id [] e = absurd (false≢true (ap is_some e))
  first_member id (e ∷ es) f = search rules

without_both : (a b c d t : Bool) → (a ≡ (b && not t)) → (c ≡ (d && not t)) → (a || c) ≡ ((b || d) && not t)
without_both a b c d t p q = search rules

or_has : (a b : Bool) → (a ≡ true) ⊎ (b ≡ true) → (a || b) ≡ true
or_has a b h = search rules

-- ids without one of them are one less
less_one : (all left : List SiteCounter) (id : SiteCounter) → is_member same_ids all id ≡ true → ((q : SiteCounter) → is_member same_ids left q ≡ (is_member same_ids all q && not (same_ids q id))) → suc (distinct_count same_ids left) ≡ distinct_count same_ids all
less_one all left id there without =
    let itself : same_ids id id ≡ true = ap is_eq (tied_itself ids_total id) in
    let gone : is_member same_ids left id ≡ false = without id ∙ and_right _ _ (not_from_true _ itself) in
    sym (one_more id left gone) ∙ same_count (id ∷ left) all (λ q. members q)
  where
    rejoined : (t m : Bool) → (t ≡ true → m ≡ true) → (t || (m && not t)) ≡ m
    rejoined true m f = sym (f refl)
    rejoined false true f = refl
    rejoined false false f = refl

    members : (q : SiteCounter) → (same_ids q id || is_member same_ids left q) ≡ is_member same_ids all q
    members q = ap (λ m. same_ids q id || m) (without q) ∙ rejoined (same_ids q id) (is_member same_ids all q) (λ t. ap (is_member same_ids all) (ids_exact q id ((Equal-is (id_cmp q id)).0 t)) ∙ there)

-- the keys of four lists
abbrev pub all_keys : {X Y : Type 0} → List (SiteCounter × X) → List (SiteCounter × Y) → List (SiteCounter × X) → List (SiteCounter × Y) → List SiteCounter
all_keys a b c d = (keys_of a ++ keys_of b) ++ (keys_of c ++ keys_of d)

four_members : {X Y : Type 0} (a : List (SiteCounter × X)) (b : List (SiteCounter × Y)) (c : List (SiteCounter × X)) (d : List (SiteCounter × Y)) (q : SiteCounter)
    → is_member same_ids (all_keys a b c d) q ≡ ((is_member same_ids (keys_of a) q || is_member same_ids (keys_of b) q) || (is_member same_ids (keys_of c) q || is_member same_ids (keys_of d) q))
four_members a b c d q = search (rules, member-append)

module _ {X Y : Type 0} (a : List (SiteCounter × X)) (b : List (SiteCounter × Y)) (c : List (SiteCounter × X)) (d : List (SiteCounter × Y)) where
  -- the least of the first ids
  abbrev pub least_first : Option SiteCounter
  least_first = lesser_of (lesser_of (first_key a) (first_key b)) (lesser_of (first_key c) (first_key d))

  -- where there is no first id, nothing is left
  pub none_left : least_first ≡ None → distinct_count same_ids (all_keys a b c d) ≡ 0
  none_left e =
      let both = lesser_none _ _ e in
      let left = lesser_none _ _ both.0 in
      let right = lesser_none _ _ both.1 in
      ap (distinct_count same_ids) (λ i. (no_keys (keys_of a) left.0 i ++ no_keys (keys_of b) left.1 i) ++ (no_keys (keys_of c) right.0 i ++ no_keys (keys_of d) right.1 i))
    where
      no_keys : (ks : List SiteCounter) → slice_get ks 0 ≡ None → ks ≡ []
      no_keys [] e = refl
      no_keys (k ∷ ks) e = absurd (false≢true (ap is_some (sym e)))

  module _ (id : SiteCounter) (least : least_first ≡ Some id) where
    among : is_member same_ids (all_keys a b c d) id ≡ true
    among = four_members a b c d id ∙ or_has _ _ (⊎_elim
        (λ l. inl (or_has _ _ (⊎_elim (λ x. inl (first_member id a x)) (λ x. inr (first_member id b x)) (lesser_member _ _ id l))))
        (λ r. inr (or_has _ _ (⊎_elim (λ x. inl (first_member id c x)) (λ x. inr (first_member id d x)) (lesser_member _ _ id r))))
        (lesser_member _ _ id least))

    -- one id is counted, and all lists go past it
    pub one_counted : is_sorted id_cmp a ≡ true → is_sorted id_cmp b ≡ true → is_sorted id_cmp c ≡ true → is_sorted id_cmp d ≡ true → suc (distinct_count same_ids (all_keys (past_id id a) (past_id id b) (past_id id c) (past_id id d))) ≡ distinct_count same_ids (all_keys a b c d)
    one_counted p q r s =
        let all = subst (NotAbove id) (sym least) (self_not_above id) in
        let two = not_above_within _ _ id all in
        let left = not_above_within _ _ id two.0 in
        let right = not_above_within _ _ id two.1 in
        less_one (all_keys a b c d) (all_keys (past_id id a) (past_id id b) (past_id id c) (past_id id d)) id among (λ k.
        four_members (past_id id a) (past_id id b) (past_id id c) (past_id id d) k ∙ without_both _ _ _ _ (same_ids k id)
        (without_both _ _ _ _ (same_ids k id) (past_members id a p left.0 k) (past_members id b q left.1 k))
        (without_both _ _ _ _ (same_ids k id) (past_members id c r right.0 k) (past_members id d s right.1 k))
        ∙ ap (λ m. m && not (same_ids k id)) (sym (four_members a b c d k)))
