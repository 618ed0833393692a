-- What holds of the bounds of a plan.
use Rattle.std.{proofs.{Common.{rules, ◌≡◌, ℕ, ◌+◌, ◌*◌, ◌<◌, ◌≤◌, ℤ, pos, ◌+ℤ◌, ◌≤ℤ◌, ◌<ℤ◌, zero, suc, Bool, true, not, ◌&&◌, eqb, nat_lt, List, [], ◌∷◌, ◌++◌, take, Ordering, Less, Equal, Greater, inl, inr, sym, subst, arith, append_assoc}, lemmas.{Bool.{cases_eq, ne_eqb, cond_both, ltb-true, and_parts, Decides.nat_tests}, Int.ints, List.{take-append-le, take_all, Elements.{All-from_recursion, recursion_from_All}}}}, specs.{List.{All, AllByRecursion}, Ordering.{int_cmp, MatchOrdering}, Cmp.int_ranks}}
use Rattle.stn_time.{specs.Time.horizon, proofs.Each.{each_joined, each_parted, each_pushed}}
use Rattle.stn_net.{specs.{Difference.{Difference, NamesEvents}, Horizon.{horizon_bound, horizon_bounds}, Schedule.{Meets, IsSchedule}}, proofs.{Horizons.length-horizon_bounds, Schedules.met_behind, Widest.horizon_each}}
use Rattle.stn_lift.specs.BaseBounds.{step_of, duration_bound, order_bound, pair_order, event_orders, orders, duration_bounds, IsOrderedPair, KeepsOrder}

-- by which events interfere, and when each is planned
module _ (interferes : ℕ → ℕ → Bool) (planned duration : ℕ → ℤ) (steps : ℕ) where
  -- the bounds of so many steps
  abbrev pub bounds : List Difference
  bounds = (horizon_bounds (2 * steps) ++ duration_bounds duration steps) ++ orders interferes planned (2 * steps) (2 * steps)

  -- the test of a pair
  abbrev is_pair : ℕ → ℕ → Bool
  is_pair one other = nat_lt one other && (not (eqb (step_of one) (step_of other)) && interferes one other)

  -- what holds of each order that a pair has
  module _ (P : Difference → Type 0) (each : (one other : ℕ) → 0 < one → one < other → other ≤ 2 * steps → P (order_bound one other (int_cmp (planned one) (planned other)))) where
    each_pair : {one other : ℕ} → 0 < one → other ≤ 2 * steps → AllByRecursion P (pair_order interferes planned one other)
    each_pair {one} {other} first last =
        cond_both (is_pair one other) (order_bound one other (int_cmp (planned one) (planned other)) ∷ []) [] (AllByRecursion P)
        (λ pair. (each one other first (ltb-true one other (and_parts (nat_lt one other) _ pair).0) last, tt)) (λ none. tt)

    each_event : (one events : ℕ) → 0 < one → events ≤ 2 * steps → AllByRecursion P (event_orders interferes planned one events)
    unfolding event_orders
    each_event one zero first most = tt
    each_event one (suc events) first most =
        each_joined P (event_orders interferes planned one events) (pair_order interferes planned one (suc events)) (each_event one events first (omega arith)) (each_pair first most)

    pub each_order : (one : ℕ) → AllByRecursion P (orders interferes planned (2 * steps) one)
    unfolding orders
    each_order zero = tt
    each_order (suc one) =
        each_joined P (orders interferes planned (2 * steps) one) (event_orders interferes planned (suc one) (2 * steps)) (each_order one) (each_event (suc one) (2 * steps) (omega arith) (omega arith))

  module _ (P : Difference → Type 0) (horizons : (event : ℕ) → 0 < event → event ≤ 2 * steps → P (horizon_bound event))
      (durations : (step : ℕ) → step < steps → P (duration_bound step (duration step)))
      (pairs : (one other : ℕ) → 0 < one → one < other → other ≤ 2 * steps → P (order_bound one other (int_cmp (planned one) (planned other)))) where
    each_duration : (count : ℕ) → count ≤ steps → AllByRecursion P (duration_bounds duration count)
    unfolding duration_bounds
    each_duration zero most = tt
    each_duration (suc count) most = each_pushed P (duration_bounds duration count) (duration_bound count (duration count)) (each_duration count (omega arith)) (durations count (omega arith))

    -- what holds of each kind of bound holds of all bounds
    each_bound : All P bounds
    each_bound =
        All-from_recursion P bounds
        (each_joined P (horizon_bounds (2 * steps) ++ duration_bounds duration steps) (orders interferes planned (2 * steps) (2 * steps))
        (each_joined P (horizon_bounds (2 * steps)) (duration_bounds duration steps)
        (recursion_from_All P (horizon_bounds (2 * steps)) (horizon_each P (2 * steps) (λ event beside last. horizons event (omega (arith, beside)) last))) (each_duration steps (omega arith)))
        (each_order P pairs (2 * steps)))

  -- the first bounds are the horizon bounds
  pub first_horizons : take (2 * steps) bounds ≡ horizon_bounds (2 * steps)
  first_horizons = search (rules, length-horizon_bounds, take-append-le, take_all)

  order_named : {one other : ℕ} (o : Ordering) → one ≤ 2 * steps → other ≤ 2 * steps → NamesEvents (2 * steps) (order_bound one other o)
  order_named o first second = search rules

  -- all name events of the plan
  pub all_named : All (NamesEvents (2 * steps)) bounds
  all_named =
      each_bound (NamesEvents (2 * steps))
      (λ event first last. let named : NamesEvents (2 * steps) (horizon_bound event) = record { from = omega arith; to = last } in named)
      (λ step within. let named : NamesEvents (2 * steps) (duration_bound step (duration step)) = record { from = omega arith; to = omega arith } in named)
      (λ one other first later last. order_named (int_cmp (planned one) (planned other)) (omega arith) last)

  module _ (origin : planned 0 ≡ pos 0) (timed : (event : ℕ) → event ≤ 2 * steps → (pos 0 ≤ℤ planned event) × (planned event ≤ℤ horizon))
      (lasting : (step : ℕ) → step < steps → planned (2 * step + 2) ≡ planned (2 * step + 1) +ℤ duration step) where
    order_met : {one other : ℕ} (o : Ordering) → MatchOrdering o (planned one <ℤ planned other) (planned one ≡ planned other) (planned other <ℤ planned one)
        → (pos 0 ≤ℤ planned one) × (planned one ≤ℤ horizon) → (pos 0 ≤ℤ planned other) × (planned other ≤ℤ horizon) → Meets planned (order_bound one other o)
    order_met Less is first second = (omega (arith, ints, is, first.0, first.1, second.0, second.1), omega (arith, ints, is, first.0, first.1, second.0, second.1))
    order_met Equal is first second = (omega (arith, ints, is), omega (arith, ints, is))
    order_met Greater is first second = (omega (arith, ints, is, first.0, first.1, second.0, second.1), omega (arith, ints, is, first.0, first.1, second.0, second.1))

    horizon_met : (event : ℕ) → event ≤ 2 * steps → Meets planned (horizon_bound event)
    horizon_met event last = let within = timed event last in (omega (arith, ints, origin, within.0), omega (arith, ints, origin, within.1))

    duration_met : (step : ℕ) → step < steps → Meets planned (duration_bound step (duration step))
    duration_met step within = let e = lasting step within in (omega (arith, ints, e), omega (arith, ints, e))

    -- the planned times are a schedule
    pub planned_possible : IsSchedule bounds planned
    planned_possible = record {
      origin = origin;
      met = each_bound (Meets planned) (λ event first last. horizon_met event last) duration_met
          (λ one other first later last. order_met {one = one} {other = other} (int_cmp (planned one) (planned other)) (int_ranks (planned one) (planned other)) (timed one (omega arith)) (timed other last));
    }

  -- a pair's order is among the bounds
  module _ (P : Difference → Type 0) (one other : ℕ) where
    pair_in_event : (events : ℕ) → 0 < other → other ≤ events → AllByRecursion P (event_orders interferes planned one events) → AllByRecursion P (pair_order interferes planned one other)
    unfolding event_orders
    pair_in_event zero first last all = absurd (omega arith)
    pair_in_event (suc events) first last all =
        let parts = each_parted P (event_orders interferes planned one events) (pair_order interferes planned one (suc events)) all in
        elim (cases_eq other (suc events)) [
          | inl same ↦ subst (λ n. AllByRecursion P (pair_order interferes planned one n)) (sym same) parts.1
          | inr before ↦ pair_in_event events first (omega arith) parts.0
        ]

    event_in_orders : (events count : ℕ) → 0 < one → one ≤ count → AllByRecursion P (orders interferes planned events count) → AllByRecursion P (event_orders interferes planned one events)
    unfolding orders
    event_in_orders events zero first last all = absurd (omega arith)
    event_in_orders events (suc count) first last all =
        let parts = each_parted P (orders interferes planned events count) (event_orders interferes planned (suc count) events) all in
        elim (cases_eq one (suc count)) [
          | inl same ↦ subst (λ n. AllByRecursion P (event_orders interferes planned n events)) (sym same) parts.1
          | inr before ↦ event_in_orders events count first (omega arith) parts.0
        ]

    -- what holds of all orders holds of the order of two events that interfere
    pair_holds : IsOrderedPair (2 * steps) interferes one other → All P (orders interferes planned (2 * steps) (2 * steps)) → P (order_bound one other (int_cmp (planned one) (planned other)))
    pair_holds pair all =
        let events = event_in_orders (2 * steps) (2 * steps) pair.first (omega (arith, pair.later, pair.last)) (recursion_from_All P (orders interferes planned (2 * steps) (2 * steps)) all) in
        let orders = pair_in_event (2 * steps) (omega (arith, pair.later)) pair.last events in
        let less : nat_lt one other ≡ true = grind (arith, nat_tests, pair.later) in
        let here = rw (less, ne_eqb (step_of one) (step_of other) pair.steps, pair.share) at orders in here.0

  order_kept : {one other : ℕ} (o : Ordering) (time : ℕ → ℤ) → MatchOrdering o (planned one <ℤ planned other) (planned one ≡ planned other) (planned other <ℤ planned one)
      → Meets time (order_bound one other o)
      → (planned one <ℤ planned other → time one <ℤ time other) × (planned other <ℤ planned one → time other <ℤ time one) × (planned one ≡ planned other → time one ≡ time other)
  order_kept o time is met = search rules

  -- in every schedule of bounds that imply the orders, events that interfere keep the plan's order
  pub orders_keep : (all : List Difference) → ((time : ℕ → ℤ) → IsSchedule all time → All (Meets time) (orders interferes planned (2 * steps) (2 * steps))) → KeepsOrder (2 * steps) interferes planned all
  orders_keep all met =
      let kept = λ (time : ℕ → ℤ) (one other : ℕ) (schedule : IsSchedule all time) (pair : IsOrderedPair (2 * steps) interferes one other).
      order_kept (int_cmp (planned one) (planned other)) time (int_ranks (planned one) (planned other)) (pair_holds (Meets time) one other pair (met time schedule)) in
      record {
        before = λ time one other schedule pair. (kept time one other schedule pair).0;
        after = λ time one other schedule pair. (kept time one other schedule pair).1;
        together = λ time one other schedule pair. (kept time one other schedule pair).2;
      }

  pub order_keeps : KeepsOrder (2 * steps) interferes planned bounds
  order_keeps = search (rules, orders_keep, met_behind)

-- one pair more
pub more_pairs : (interferes : ℕ → ℕ → Bool) (planned : ℕ → ℤ) (one count : ℕ) (first old new : List Difference) → old ≡ first ++ event_orders interferes planned one count
    → new ≡ old ++ pair_order interferes planned one (count + 1) → new ≡ first ++ event_orders interferes planned one (count + 1)
unfolding event_orders
more_pairs interferes planned one count first old new was is = search (rules, append_assoc)
