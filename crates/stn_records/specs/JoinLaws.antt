-- For proofs alone: no public clause cites these words. They stand here since the laws of the trait `Join` name them.
-- The laws of a join that is the union of the items.
use Rattle.std.{specs.{Prelude.{◌≡◌, ℕ, ◌<◌, Bool, true, false, cond, ◌⊎◌, ◌↔◌, List, [], ◌∷◌, ◌++◌, Option, Some, None, option_and_then, is_some, refl, length, All, Contains}, List.Sorted.IsPermutation}, proofs.{Common.{rules, zero, suc, get_or, arith, sym, ap, subst, ◌∙◌, inl, inr, ⊎_elim}, lemmas.{Bool.false≢true, Option.same_Some, List.Sorted.{All-permutation, Contains-permutation, IsPermutation-sym}}}}
use Rattle.stn_time.proofs.Each.{All-left, All-right}
use Rattle.stn_records.specs.Join.{join_all, HeldByOne, SameItems, GroupedTakes, alone, both, contents_taken, outcome_of, passing, join_within, IsJoin}

-- two options that give the same values are equal
pub same_options : {C : Type 0} (o p : Option C) → ((c : C) → o ≡ Some c → p ≡ Some c) → ((c : C) → p ≡ Some c → o ≡ Some c) → o ≡ p
same_options o p f g = search rules

-- a chain of two steps that gives a value gave one at the first
pub first_step : {A B : Type 0} (f : A → Option B) (o : Option A) (b : B) → option_and_then f o ≡ Some b → (a : A) × (o ≡ Some a) × (f a ≡ Some b)
first_step f o b e = search rules

-- and where the first step gives a value, the chain gives what the second does
pub both_steps : {A B : Type 0} (f : A → Option B) (o : Option A) (a : A) → o ≡ Some a → option_and_then f o ≡ f a
both_steps f o a e = ap (option_and_then f) e

module _ {C I : Type 0} {Holds : C → I → Type 0} {join : C → C → Option C} (j : IsJoin Holds join) where
  -- a content with the items of both is the join
  pub join_is : (a b c : C) → ((item : I) → Holds c item ↔ (Holds a item ⊎ Holds b item)) → join a b ≡ Some c
  join_is a b c union =
      let d = j.defined a b c (λ i h. (union i).1 (inl h)) (λ i h. (union i).1 (inr h)) in
      d.1 ∙ ap Some (j.same d.0 c (λ i. (λ h. (union i).1 ((j.union a b d.0 d.1 i).0 h), λ h. (j.union a b d.0 d.1 i).1 ((union i).0 h))))

  flipped : (a b c : C) → join a b ≡ Some c → join b a ≡ Some c
  flipped a b c e = join_is b a c (λ i. (λ h. ⊎_elim inr inl ((j.union a b c e i).0 h), λ h. (j.union a b c e i).1 (⊎_elim inr inl h)))

  pub commutes : (a b : C) → join a b ≡ join b a
  commutes a b = same_options _ _ (flipped a b) (flipped b a)

  pub repeats : (a : C) → join a a ≡ Some a
  repeats a = join_is a a a (λ i. (λ h. inl h, λ h. ⊎_elim (λ x. x) (λ x. x) h))

  moved_right : (a b c d : C) → option_and_then (λ ab. join ab c) (join a b) ≡ Some d → option_and_then (λ bc. join a bc) (join b c) ≡ Some d
  moved_right a b c d e =
      let first = first_step (λ ab. join ab c) (join a b) d e in
      let ab = j.union a b first.0 first.1 in
      let abc = j.union first.0 c d first.2 in
      let second = j.defined b c d (λ i h. (abc i).1 (inl ((ab i).1 (inr h)))) (λ i h. (abc i).1 (inr h)) in
      let bc = j.union b c second.0 second.1 in
      both_steps (λ x. join a x) (join b c) second.0 second.1 ∙ join_is a second.0 d (λ i. (
        λ h. ⊎_elim (λ x. ⊎_elim inl (λ y. inr ((bc i).1 (inl y))) ((ab i).0 x)) (λ y. inr ((bc i).1 (inr y))) ((abc i).0 h),
        λ h. ⊎_elim (λ x. (abc i).1 (inl ((ab i).1 (inl x)))) (λ y. ⊎_elim (λ z. (abc i).1 (inl ((ab i).1 (inr z)))) (λ z. (abc i).1 (inr z)) ((bc i).0 y)) h,
      ))

  moved_left : (a b c d : C) → option_and_then (λ bc. join a bc) (join b c) ≡ Some d → option_and_then (λ ab. join ab c) (join a b) ≡ Some d
  moved_left a b c d e =
      (λ i. option_and_then (λ x. commutes x c i) (commutes a b i)) ∙ moved_right c b a d ((λ i. option_and_then (λ x. commutes x a i) (commutes c b i)) ∙ e)

  pub regroups : (a b c : C) → option_and_then (λ ab. join ab c) (join a b) ≡ option_and_then (λ bc. join a bc) (join b c)
  regroups a b c = same_options _ _ (moved_right a b c) (moved_left a b c)

  -- the content has the items of the list, and no others
  abbrev pub Gathers : List C → C → Type 0
  Gathers contents c = (item : I) → Holds c item ↔ HeldByOne Holds contents item

  one_gathered : (a c : C) → Gathers (a ∷ []) c → a ≡ c
  one_gathered a c g = j.same a c (λ i. (λ h. (g i).1 (inl h), λ h. ⊎_elim (λ x. x) absurd ((g i).0 h)))

  one_gathers : (a c : C) → a ≡ c → Gathers (a ∷ []) c
  one_gathers a c e i = search rules

  -- what the join of a list has
  pub gathers : (a : C) (contents : List C) (c : C) → join_all join a contents ≡ Some c → Gathers (a ∷ contents) c
  gathers a [] c e i = one_gathers a c (same_Some a c e) i
  gathers a (b ∷ bs) c e i =
      let first = first_step (λ ab. join_all join ab bs) (join a b) c e in
      let rest = gathers first.0 bs c first.2 i in
      let ab = j.union a b first.0 first.1 i in (
        λ h. ⊎_elim (λ x. ⊎_elim inl (λ y. inr (inl y)) (ab.0 x)) (λ y. inr (inr y)) (rest.0 h),
        λ h. ⊎_elim (λ x. rest.1 (inl (ab.1 (inl x)))) (λ y. ⊎_elim (λ z. rest.1 (inl (ab.1 (inr z)))) (λ z. rest.1 (inr z)) y) h,
      )

  -- a content with the items of the list is its join
  pub gathered : (a : C) (contents : List C) (c : C) → Gathers (a ∷ contents) c → join_all join a contents ≡ Some c
  gathered a [] c g = ap Some (one_gathered a c g)
  gathered a (b ∷ bs) c g =
      let d = j.defined a b c (λ i h. (g i).1 (inl h)) (λ i h. (g i).1 (inr (inl h))) in
      let ab = j.union a b d.0 d.1 in
      both_steps (λ x. join_all join x bs) (join a b) d.0 d.1 ∙ gathered d.0 bs c (λ i. (
        λ h. ⊎_elim (λ x. inl ((ab i).1 (inl x))) (λ y. ⊎_elim (λ z. inl ((ab i).1 (inr z))) inr y) ((g i).0 h),
        λ h. ⊎_elim (λ x. ⊎_elim (λ z. (g i).1 (inl z)) (λ z. (g i).1 (inr (inl z))) ((ab i).0 x)) (λ y. (g i).1 (inr (inr y))) h,
      ))

  regathered : (contents others : List C) (c : C) → SameItems Holds contents others → Gathers contents c → Gathers others c
  regathered contents others c same g i = (λ h. (same i).0 ((g i).0 h), λ h. (g i).1 ((same i).1 h))

  -- a list of joins depends on the set of items alone
  pub by_items_alone : (a b : C) (ours theirs : List C) → SameItems Holds (a ∷ ours) (b ∷ theirs) → join_all join a ours ≡ join_all join b theirs
  by_items_alone a b ours theirs same = same_options _ _
      (λ c e. gathered b theirs c (regathered (a ∷ ours) (b ∷ theirs) c same (gathers a ours c e)))
      (λ c e. gathered a ours c (regathered (b ∷ theirs) (a ∷ ours) c (λ i. ((same i).1, (same i).0)) (gathers b theirs c e)))

  held_left : (ours theirs : List C) (i : I) → HeldByOne Holds ours i → HeldByOne Holds (ours ++ theirs) i
  held_left [] theirs i h = absurd h
  held_left (a ∷ ours) theirs i h = ⊎_elim inl (λ x. inr (held_left ours theirs i x)) h

  held_right : (ours theirs : List C) (i : I) → HeldByOne Holds theirs i → HeldByOne Holds (ours ++ theirs) i
  held_right [] theirs i h = h
  held_right (a ∷ ours) theirs i h = inr (held_right ours theirs i h)

  held_by_either : (ours theirs : List C) (i : I) → HeldByOne Holds (ours ++ theirs) i → HeldByOne Holds ours i ⊎ HeldByOne Holds theirs i
  held_by_either [] theirs i h = inr h
  held_by_either (a ∷ ours) theirs i h = ⊎_elim (λ x. inl (inl x)) (λ x. ⊎_elim (λ y. inl (inr y)) inr (held_by_either ours theirs i x)) h

  held_by_member : (contents : List C) (i : I) → HeldByOne Holds contents i → (c : C) × Contains contents c × Holds c i
  held_by_member [] i h = absurd h
  held_by_member (a ∷ contents) i h = ⊎_elim
      (λ x. (a, (0, omega arith, refl), x))
      (λ x. let m = held_by_member contents i x in (m.0, (suc m.1.0, omega (arith, m.1.1), m.1.2), m.2)) h

  member_holds : (contents : List C) (i : I) (c : C) (k : ℕ) → k < length contents → get_or contents k c ≡ c → Holds c i → HeldByOne Holds contents i
  member_holds [] i c k below is h = absurd (omega arith)
  member_holds (a ∷ contents) i c zero below is h = inl (subst (λ x. Holds x i) (sym is) h)
  member_holds (a ∷ contents) i c (suc k) below is h = inr (member_holds contents i c k (omega arith) is h)

  moved : (ours theirs : List C) → IsPermutation ours theirs → (i : I) → HeldByOne Holds ours i → HeldByOne Holds theirs i
  moved ours theirs p i h =
      let m = held_by_member ours i h in
      let there = Contains-permutation ours theirs m.0 p m.1 in
      member_holds theirs i m.0 there.0 there.1 there.2 m.2

  -- two orders of one list have the same items
  pub same_items_in_any_order : (ours theirs : List C) → IsPermutation ours theirs → SameItems Holds ours theirs
  same_items_in_any_order ours theirs p i = (moved ours theirs p i, moved theirs ours (IsPermutation-sym ours theirs p) i)

  module _ (test : C → Bool) (smaller : (c d : C) → ((item : I) → Holds c item → Holds d item) → test d ≡ true → test c ≡ true) where
    passed : (c d : C) → passing test c ≡ Some d → (c ≡ d) × (test c ≡ true)
    passed c d = elim (test c) as (λ b. cond b (Some c) None ≡ Some d → (c ≡ d) × (b ≡ true)) [
      | true ↦ λ e. (same_Some c d e, refl)
      | false ↦ λ e. absurd (false≢true (ap is_some e))
    ]

    passes : (c : C) → test c ≡ true → passing test c ≡ Some c
    passes c e = ap (λ b. cond b (Some c) None) e

    -- what takes leave has the items of the contents, and passes the test
    left_by_takes : (takes : GroupedTakes C) (c : C) → All (λ x. test x ≡ true) (contents_taken takes) → outcome_of (join_within test join) takes ≡ Some c → Gathers (contents_taken takes) c × (test c ≡ true)
    left_by_takes (alone a) c within e = let is = same_Some a c e in (one_gathers a c is, subst (λ x. test x ≡ true) is (within 0 a (omega arith)))
    left_by_takes (both ours theirs) c within e =
        let first = first_step (λ a. option_and_then (λ b. join_within test join a b) (outcome_of (join_within test join) theirs)) (outcome_of (join_within test join) ours) c e in
        let second = first_step (λ b. join_within test join first.0 b) (outcome_of (join_within test join) theirs) c first.2 in
        let third = first_step (passing test) (join first.0 second.0) c second.2 in
        let last = passed third.0 c third.2 in
        let a = left_by_takes ours first.0 (All-left (λ x. test x ≡ true) (contents_taken ours) (contents_taken theirs) within) first.1 in
        let b = left_by_takes theirs second.0 (All-right (λ x. test x ≡ true) (contents_taken ours) (contents_taken theirs) within) second.1 in
        let union = j.union first.0 second.0 third.0 third.1 in (
          λ i. (
            λ h. ⊎_elim (λ x. held_left (contents_taken ours) (contents_taken theirs) i ((a.0 i).0 x)) (λ x. held_right (contents_taken ours) (contents_taken theirs) i ((b.0 i).0 x)) ((union i).0 (subst (λ x. Holds x i) (sym last.0) h)),
            λ h. subst (λ x. Holds x i) last.0 ((union i).1 (⊎_elim (λ x. inl ((a.0 i).1 x)) (λ x. inr ((b.0 i).1 x)) (held_by_either (contents_taken ours) (contents_taken theirs) i h))),
          ),
          subst (λ x. test x ≡ true) last.0 last.1,
        )

    -- below a content that passes the test no take is refused
    taken_below : (takes : GroupedTakes C) (c : C) → All (λ x. test x ≡ true) (contents_taken takes) → test c ≡ true → ((i : I) → HeldByOne Holds (contents_taken takes) i → Holds c i) → (d : C) × (outcome_of (join_within test join) takes ≡ Some d)
    taken_below (alone a) c within fits below = (a, refl)
    taken_below (both ours theirs) c within fits below =
        let ours_within = All-left (λ x. test x ≡ true) (contents_taken ours) (contents_taken theirs) within in
        let theirs_within = All-right (λ x. test x ≡ true) (contents_taken ours) (contents_taken theirs) within in
        let a = taken_below ours c ours_within fits (λ i h. below i (held_left (contents_taken ours) (contents_taken theirs) i h)) in
        let b = taken_below theirs c theirs_within fits (λ i h. below i (held_right (contents_taken ours) (contents_taken theirs) i h)) in
        let in_a = left_by_takes ours a.0 ours_within a.1 in
        let in_b = left_by_takes theirs b.0 theirs_within b.1 in
        let a_below = λ (i : I) (h : Holds a.0 i). below i (held_left (contents_taken ours) (contents_taken theirs) i ((in_a.0 i).0 h)) in
        let b_below = λ (i : I) (h : Holds b.0 i). below i (held_right (contents_taken ours) (contents_taken theirs) i ((in_b.0 i).0 h)) in
        let d = j.defined a.0 b.0 c a_below b_below in
        let union = j.union a.0 b.0 d.0 d.1 in
        let d_fits = smaller d.0 c (λ i h. ⊎_elim (a_below i) (b_below i) ((union i).0 h)) fits in (
          d.0,
          both_steps (λ x. option_and_then (λ y. join_within test join x y) (outcome_of (join_within test join) theirs)) (outcome_of (join_within test join) ours) a.0 a.1
              ∙ both_steps (λ y. join_within test join a.0 y) (outcome_of (join_within test join) theirs) b.0 b.1
              ∙ both_steps (passing test) (join a.0 b.0) d.0 d.1 ∙ passes d.0 d_fits,
        )

    -- takes in any order and grouping leave the join of the list, where it is defined and passes the test; else one is refused
    pub takes_agree : (takes : GroupedTakes C) (first : C) (rest : List C) → IsPermutation (contents_taken takes) (first ∷ rest) → All (λ x. test x ≡ true) (first ∷ rest) → outcome_of (join_within test join) takes ≡ option_and_then (passing test) (join_all join first rest)
    takes_agree takes first rest p within =
        let same = same_items_in_any_order (contents_taken takes) (first ∷ rest) p in
        let parts_within = All-permutation (λ x. test x ≡ true) (first ∷ rest) (contents_taken takes) (IsPermutation-sym (contents_taken takes) (first ∷ rest) p) within in
        same_options _ _
        (λ c e.
        let left = left_by_takes takes c parts_within e in
        both_steps (passing test) (join_all join first rest) c (gathered first rest c (regathered (contents_taken takes) (first ∷ rest) c same left.0)) ∙ passes c left.1)
        (λ c e.
        let chain = first_step (passing test) (join_all join first rest) c e in
        let last = passed chain.0 c chain.2 in
        let all = regathered (first ∷ rest) (contents_taken takes) chain.0 (λ i. ((same i).1, (same i).0)) (gathers first rest chain.0 chain.1) in
        let d = taken_below takes chain.0 parts_within last.1 (λ i h. (all i).1 h) in
        let left = left_by_takes takes d.0 parts_within d.1 in
        d.1 ∙ ap Some (j.same d.0 chain.0 (λ i. (λ h. (all i).1 ((left.0 i).0 h), λ h. (left.0 i).1 ((all i).0 h))) ∙ last.0))
