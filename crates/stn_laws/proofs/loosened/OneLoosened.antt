-- There is one loosened plan for a plan and a tolerance.
use Rattle.std.{proofs.{Common.{rules, ◌≡◌, inl, inr, ℕ, ◌+◌, ◌≤◌, ℤ, ◌≤ℤ◌, ◌<ℤ◌, suc, Bool, true, false, filter, Ordering, Less, Equal, Greater, List, [], ◌∷◌, ◌++◌, length, get_or, refl, sym, ap, subst, ◌∙◌, arith, length-append}, lemmas.{Int.ints, Cmp.int_cmp_total, List.{Sorted.{sorted_far, ranks_by}, Elements.{All-head, All-tail}}}}, specs.{List.{All, Sorted.{ties, IsSortedBy}}, Ordering.{int_cmp, MatchOrdering, is_lt}, Cmp.int_ranks}}
use Rattle.stn_net.specs.{Difference.Difference, Horizon.horizon_bounds}
use Rattle.stn_lift.specs.PlanSource.{PlanSource, events_of}
use Rattle.stn_loosen.specs.{Slack.Slack, Moved.moved_bounds, Robust.AreRobust, Loosened.{gap, AreKept, AreNearestFirst, AreLoosened, AreFewLoosened, AreTooMany, bounds_with, loose_durations}}

module _ {X : Type 0} (key : X → ℤ) where
  abbrev lt : X → X → Bool
  lt x y = is_lt (int_cmp (key x) (key y))

  tie_same : (x y : X) → key x ≡ key y → ties lt x y ≡ true
  tie_same x y same = search rules

  tie_less : (x y : X) → key x <ℤ key y → ties lt x y ≡ false
  tie_less x y less = search rules

  filter_with : (test : X → Bool) (x : X) (xs : List X) → test x ≡ true → filter test (x ∷ xs) ≡ x ∷ filter test xs
  filter_with test x xs passes = cc

  filter_without : (test : X → Bool) (x : X) (xs : List X) → test x ≡ false → filter test (x ∷ xs) ≡ filter test xs
  filter_without test x xs fails = cc

  filter_cancel : (test : X → Bool) (x : X) (xs ys : List X) → filter test (x ∷ xs) ≡ filter test (x ∷ ys) → filter test xs ≡ filter test ys
  filter_cancel test x xs ys same = search rules

  tail_sorted : (x : X) (xs : List X) → IsSortedBy lt (x ∷ xs) → IsSortedBy lt xs
  tail_sorted x xs sorted k d low below =
      let next : suc k + 1 ≡ suc (k + 1) = omega arith in
      subst (λ n. lt (get_or (x ∷ xs) n d) (get_or xs k d) ≡ false) next (sorted (suc k) d (omega arith) (omega (arith, below)))

  -- no key of a sorted list is less than that of its first
  least_first : (y : X) (ys : List X) → IsSortedBy lt (y ∷ ys) → All (λ z. key y ≤ℤ key z) (y ∷ ys)
  least_first y ys sorted k d below = not_less (key (get_or (y ∷ ys) k d)) (key y) (sorted_far lt (ranks_by int_cmp_total key) (y ∷ ys) sorted 0 k d (omega arith) below)
    where
      not_less : (a b : ℤ) → is_lt (int_cmp a b) ≡ false → b ≤ℤ a
      not_less a b least = search rules

  none_tie : (x : X) (ys : List X) → All (λ y. key x <ℤ key y) ys → filter (ties lt x) ys ≡ []
  none_tie x [] all = refl
  none_tie x (y ∷ ys) all =
      filter_without (ties lt x) y ys (tie_less x y (All-head (λ (z : X). key x <ℤ key z) y ys all)) ∙ none_tie x ys (All-tail (λ (z : X). key x <ℤ key z) y ys all)

  -- so the head of one list does not lie before another list with the same ties
  not_before : (x : X) (xs : List X) (y : X) (ys : List X) → key x <ℤ key y → IsSortedBy lt (y ∷ ys) → ¬ (filter (ties lt x) (x ∷ xs) ≡ filter (ties lt x) (y ∷ ys))
  not_before x xs y ys less sorted same =
      let none = none_tie x (y ∷ ys) (λ k d below. let least = least_first y ys sorted k d below in omega (arith, ints, less, least)) in
      let wrong : x ∷ filter (ties lt x) xs ≡ [] = sym (filter_with (ties lt x) x xs (tie_same x x refl)) ∙ same ∙ none in
      cc

  pub one_order : (xs ys : List X) → IsSortedBy lt xs → IsSortedBy lt ys → ((v : X) → filter (ties lt v) xs ≡ filter (ties lt v) ys) → xs ≡ ys
  one_order [] [] these those same = refl
  one_order [] (y ∷ ys) these those same = let wrong : [] ≡ y ∷ filter (ties lt y) ys = same y ∙ filter_with (ties lt y) y ys (tie_same y y refl) in cc
  one_order (x ∷ xs) [] these those same = let wrong : x ∷ filter (ties lt x) xs ≡ [] = sym (filter_with (ties lt x) x xs (tie_same x x refl)) ∙ same x in cc
  one_order (x ∷ xs) (y ∷ ys) these those same = by (int_cmp (key x) (key y)) (int_ranks (key x) (key y)) (one_order xs ys (tail_sorted x xs these) (tail_sorted y ys those))
    where
      head : key x ≡ key y → x ≡ y
      head level =
          let pair : x ∷ filter (ties lt x) xs ≡ y ∷ filter (ties lt x) ys =
          sym (filter_with (ties lt x) x xs (tie_same x x refl)) ∙ same x ∙ filter_with (ties lt x) y ys (tie_same x y level) in
          cc

      rest : key x ≡ key y → (v : X) → filter (ties lt v) xs ≡ filter (ties lt v) ys
      rest level v = filter_cancel (ties lt v) x xs ys (subst (λ z. filter (ties lt v) (x ∷ xs) ≡ filter (ties lt v) (z ∷ ys)) (sym (head level)) (same v))

      by : (o : Ordering) → MatchOrdering o (key x <ℤ key y) (key x ≡ key y) (key y <ℤ key x) → (((v : X) → filter (ties lt v) xs ≡ filter (ties lt v) ys) → xs ≡ ys) → x ∷ xs ≡ y ∷ ys
      by Less h tails = absurd (not_before x xs y ys h those (same x))
      by Equal h tails = ap (λ z. z ∷ xs) (head h) ∙ ap (λ l. y ∷ l) (tails (rest h))
      by Greater h tails = absurd (not_before y ys x xs h these (sym (same y)))

-- one order of the orders, nearest first
one_sorted : (planned : ℕ → ℤ) (orders one other : List Difference) → AreNearestFirst planned orders one → AreNearestFirst planned orders other → one ≡ other
one_sorted planned orders one other these those =
    one_order (gap planned) one other these.nearest those.nearest (λ v. these.stable v ∙ sym (those.stable v))

-- what is kept of orders is settled
one_kept : (bounds orders one other : List Difference) → AreKept bounds orders one → AreKept bounds orders other → one ≡ other
one_kept bounds [] one other these those = these ∙ sym those
one_kept bounds (order ∷ orders) one other (inl a) (inl b) = one_kept bounds orders one other a.1 b.1
one_kept bounds (order ∷ orders) one other (inl a) (inr b) = absurd (b.0 a.0)
one_kept bounds (order ∷ orders) one other (inr a) (inl b) = absurd (a.0 b.0)
one_kept bounds (order ∷ orders) one other (inr a) (inr b) = cc (one_kept (bounds ++ order ∷ []) orders a.1.0 b.1.0 a.1.2 b.1.2)

module _ (source : PlanSource) (slack : Slack) where
  alike : (one other : List Difference) → (these : AreLoosened source slack one) → (those : AreLoosened source slack other) → these.made.kept ≡ those.made.kept
  alike one other these those =
      let front : List Difference = bounds_with source (loose_durations slack source) in
      let same : these.orders ≡ those.orders = search (rules, one_sorted) in
      search (rules, one_kept)

  pub one_plan : (one other : List Difference) → AreLoosened source slack one → AreLoosened source slack other → one ≡ other
  one_plan one other these those = cc (alike one other these those)

  pub one_robust : (one other : List Difference) → AreRobust source slack one → AreRobust source slack other → one ≡ other
  one_robust one other these those =
      let front = one_plan these.loosened those.loosened these.are_loosened those.are_loosened in
      let kept = alike these.loosened those.loosened these.are_loosened those.are_loosened in
      let sides : List Difference → List Difference = λ l. moved_bounds (loose_durations slack source) (l ++ horizon_bounds (events_of source)) in
      let chosen : AreKept (bounds_with source those.loosened) (sides those.are_loosened.made.kept) these.moved = search rules
      in
      search (rules, one_kept)

-- what is kept of the first orders is kept of all
front_kept : (bounds first others all : List Difference) → AreKept bounds (first ++ others) all → (kept : List Difference) → AreKept bounds first kept → length kept ≤ length all
front_kept bounds [] others all are kept none = omega (arith, ap length none)
front_kept bounds (order ∷ first) others all (inl a) kept (inl b) = front_kept bounds first others all a.1 kept b.1
front_kept bounds (order ∷ first) others all (inl a) kept (inr b) = absurd (b.0 a.0)
front_kept bounds (order ∷ first) others all (inr a) kept (inl b) = absurd (a.0 b.0)
front_kept bounds (order ∷ first) others all (inr a) kept (inr b) =
    let rest = front_kept (bounds ++ order ∷ []) first others a.1.0 a.1.2 b.1.0 b.1.2 in
    omega (arith, rest, ap length a.1.1, ap length b.1.1)

pub many_not_few : (source : PlanSource) (slack : Slack) → AreTooMany source slack → (records : List Difference) → ¬ AreFewLoosened source slack records
many_not_few source slack many records few =
    let durations : List Difference = loose_durations slack source in
    let same : many.first ++ many.others ≡ few.0.orders = search (rules, one_sorted) in
    let longer = front_kept (bounds_with source durations) many.first many.others few.0.made.kept
    (subst (λ l. AreKept (bounds_with source durations) l few.0.made.kept) (sym same) few.0.made.chosen) many.made.kept many.made.chosen in
    search (rules, length-append)
