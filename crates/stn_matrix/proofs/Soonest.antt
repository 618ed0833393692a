-- What the soonest times say of what comes next, of the rest of a plan, and of when an event may run.
use Rattle.std.{proofs.{lemmas.{Int.{ints, clamps}, Bool.{cases_eq, cases_lt, eq-eqb, ne_eqb}, List.{Sorted.{sorted_far, ranks_by, All-permutation, sum_by-IsPermutation}, Elements.{All-contains, All-contains_itself, All-filter, All-push, filter_passes}, Sums.{length-filter, get_or-le-sum_by, sum_by-cons, sum_by_push}}}, Common.{rules, ◌≡◌, ◌≢◌, inl, inr, ℕ, ℤ, pos, zero, suc, ◌+◌, ◌<◌, ◌≤◌, ◌+ℤ◌, ◌-ℤ◌, ◌≤ℤ◌, ◌<ℤ◌, Bool, true, false, eqb, eqb-true, List, [], ◌∷◌, ◌++◌, length, get_or, Ordering, refl, sym, ap, subst, ◌∙◌, arith}}, specs.{Prelude.{All, Some, None, slice_set, count_by}, List.{AllPairs, Contains, filter, Sorted.{IsSorted, IsPermutation}}, Int.{int_min, int_max}, Ordering.{ord_max, int_cmp, nat_cmp, is_lt, ordering_then, MatchOrdering}, Cmp.{IsTotalOrder, ranks, int_ranks}}}
use Rattle.stn_net.{specs.{Difference.Difference, Schedule.IsSchedule, Windows.{Dispatch.{IsLeft, IsReady, AreReadyTimes, ComesFirst, IsFirstReady}, Rehearsal.{fixed_at, IsRehearsal}, Leading.{RunsBefore, AreRunsBelow, AreReadyAt}, Soonest.AreSoonest}}, proofs.{Closure.{schedule_before, schedule_last}, Readiness.left_within, WindowEnds.lesser_schedule, Ends.earliest_schedule}}
use Rattle.stn_matrix.proofs.{ReadyTimes.later_of, Rehearsals.{fixed_schedule, left_before, left_after, one_or_none, runs_at}}

module _ (bounds : List Difference) (done : List Bool) (now : ℤ) (times : ℕ → ℤ) (are : AreSoonest bounds done now times) where
  -- an event that is left and comes first in the soonest times is ready then
  first_is_ready : (event : ℕ) → IsLeft done event → ((other : ℕ) → IsLeft done other → times event ≤ℤ times other) → IsReady bounds done event (times event)
  first_is_ready event left first = search rules

  -- whatever may run from now on comes no sooner
  pub ready_no_sooner : (event : ℕ) (time : ℤ) → now ≤ℤ time → IsReady bounds done event time → times event ≤ℤ time
  ready_no_sooner event time later ready = grind (arith)

  -- so the first of those that are left, by its soonest time and then by number, comes next
  pub soonest_is_first : (time : ℤ) (event : ℕ) → IsLeft done event → time ≡ times event → ((other : ℕ) → IsLeft done other → ComesFirst time event (times other) other)
      → IsFirstReady bounds done now time event
  soonest_is_first time event left at first = record {
    ready = rw at (first_is_ready event left (λ other is_left. let (before, _) = first other is_left in omega (arith, ints)));
    later = (let after = are.waits event left in omega (arith, ints));
    first = λ other_time other later ready.
        let (before, less) = first other ready.left in
        let sooner = ready_no_sooner other other_time later ready in
        (omega (arith, ints), λ same. less (omega (arith, ints)));
  }

  -- once an event that comes first is fixed at its soonest time and done, the soonest times are the same
  pub soonest_stay : (event : ℕ) → IsLeft done event → ((other : ℕ) → IsLeft done other → times event ≤ℤ times other)
      → AreSoonest (bounds ++ fixed_at (times event) event ∷ []) (slice_set done event true) (times event) times
  soonest_stay event left first = record {
    schedule = fixed_schedule bounds times (times event) event are.schedule refl;
    waits = λ other still. first other (left_before done event other left still).1;
    least = λ others schedule waits other still.
        let (low, high) = schedule_last bounds (fixed_at (times event) event) others schedule in
        let after = are.waits event left in
        are.least others (schedule_before bounds (fixed_at (times event) event ∷ []) others schedule) (λ one is_left. elim (cases_eq one event) [
          | inl same ↦ (let e : others one ≡ others event = ap others same in omega (arith, ints))
          | inr differs ↦ (let later = waits one (left_after done event one is_left differs) in omega (arith, ints))
        ]) other (left_before done event other left still).1;
  }

-- what counts in a list stands somewhere in it
stands : {X : Type 0} (number : X → ℕ) (xs : List X) (n : ℕ) → 0 < count_by (λ x. eqb (number x) n) xs → (x : X) × Contains xs x × (number x ≡ n)
stands {X} number xs n some =
    let (x, has) = first (filter (λ x. eqb (number x) n) xs) (omega (arith, length-filter (λ x. eqb (number x) n) xs)) in (
      x,
      All-contains (Contains xs) _ x (All-filter (λ x. eqb (number x) n) (Contains xs) xs (All-contains_itself xs)) has,
      eqb-true (number x) n (All-contains (λ x. eqb (number x) n ≡ true) _ x (filter_passes (λ x. eqb (number x) n) xs) has),
    )
  where
    first : (xs : List X) → 0 < length xs → (x : X) × Contains xs x
    first [] some = absurd (omega arith)
    first (x ∷ xs) some = (x, (0, some, refl))

-- the first comes before each
first_before : (run : ℤ × ℕ) (runs : List (ℤ × ℕ)) (place : ℕ) (d : ℤ × ℕ) → AllPairs RunsBefore (run ∷ runs) → place < length (run ∷ runs) → RunsBefore run (get_or (run ∷ runs) place d)
first_before run runs zero d order within = omega (arith, ints)
first_before run runs (suc place) d order within = order 0 (suc place) d (omega arith) within

-- the runs are those of all events that are left, each at its time, in their order
pub record AreRuns (times : ℕ → ℤ) (done : List Bool) (runs : List (ℤ × ℕ)) : Type 0 where
  pub each : All (λ run. IsLeft done run.1 × (run.0 ≡ times run.1)) runs
  pub once : (event : ℕ) → IsLeft done event → count_by (λ run. eqb run.1 event) runs ≡ 1
  pub order : AllPairs RunsBefore runs

module _ (times : ℕ → ℤ) (done : List Bool) (run : ℤ × ℕ) (runs : List (ℤ × ℕ)) (are : AreRuns times done (run ∷ runs)) where
  head_is : IsLeft done run.1 × (run.0 ≡ times run.1)
  head_is = are.each 0 run (omega arith)

  head_comes_first : (other : ℕ) → IsLeft done other → ComesFirst run.0 run.1 (times other) other
  head_comes_first other left =
      let (seen, has, is) = stands (λ (r : ℤ × ℕ). r.1) (run ∷ runs) other (omega (arith, are.once other left)) in
      let (place, below, at) = has in
      let before : RunsBefore run seen = subst (RunsBefore run) at (first_before run runs place seen are.order below) in
      let (seen_left, seen_at) = All-contains (λ (r : ℤ × ℕ). IsLeft done r.1 × (r.0 ≡ times r.1)) (run ∷ runs) seen are.each has in
      rw is at (subst (λ time. ComesFirst run.0 run.1 time seen.1) seen_at before)

  -- the others are those of the events that are left once that of the first is done
  others_left : AreRuns times (slice_set done run.1 true) runs
  others_left = record {
    each = λ k d below.
        let (left, at) = are.each (suc k) d (omega arith) in
        let other = (get_or runs k d).1 in
        let counted = sum_by-cons (runs_at run.1) run runs in
        let most = get_or-le-sum_by (runs_at run.1) runs k d below in
        let once = are.once run.1 head_is.0 in
        (left_after done run.1 other left (λ same. omega (arith, counted, most, once, ap one_or_none (eq-eqb run.1 run.1 refl), ap one_or_none (eq-eqb other run.1 same))), at);
    once = λ event still.
        let (differs, was_left) = left_before done run.1 event head_is.0 still in
        omega (arith, are.once event was_left, sum_by-cons (runs_at event) run runs, ap one_or_none (ne_eqb run.1 event (λ same. differs (sym same))));
    order = λ i j d before below. are.order (suc i) (suc j) d (omega arith) (omega arith);
  }

-- the soonest times in their order are a rehearsal
pub soonest_is_rehearsal : (runs : List (ℤ × ℕ)) (bounds : List Difference) (done : List Bool) (now : ℤ) (times : ℕ → ℤ) → AreSoonest bounds done now times
    → AreRuns times done runs → IsRehearsal bounds done now runs
soonest_is_rehearsal [] bounds done now times soonest are = search rules
soonest_is_rehearsal (run ∷ runs) bounds done now times soonest are =
    let (left, at) = head_is times done run runs are in
    let first = head_comes_first times done run runs are in
    let sooner : (other : ℕ) → IsLeft done other → times run.1 ≤ℤ times other = λ other is_left. let (before, less) = first other is_left in omega (arith, ints) in
    let stay = soonest_stay bounds done now times soonest run.1 left sooner in
    let fixed : AreSoonest (bounds ++ fixed_at run.0 run.1 ∷ []) (slice_set done run.1 true) run.0 times =
    rw at stay in (
      soonest_is_first bounds done now times soonest run.0 run.1 left at first,
      soonest_is_rehearsal runs (bounds ++ fixed_at run.0 run.1 ∷ []) (slice_set done run.1 true) run.0 times fixed (others_left times done run runs are),
    )

-- the greater of one schedule and of another that is brought forward, as long as neither passes the origin, is a schedule
greater_schedule : (bounds : List Difference) (early late : ℕ → ℤ) (delay : ℤ) → IsSchedule bounds early → IsSchedule bounds late → pos 0 ≤ℤ delay
    → IsSchedule bounds (λ y. int_max (early y) (late y -ℤ delay))
greater_schedule bounds early late delay is_early is_late after = search (rules, ints, clamps)

module _ (bounds : List Difference) (events : ℕ) (done : List Bool) (earliest latest times : ℕ → ℤ) (last : ℤ) (are : AreReadyAt bounds events done earliest latest times last) where
  -- an event that may run does so by then
  ready_by_last : (event : ℕ) (time : ℤ) → IsReady bounds done event time → time ≤ℤ last
  ready_by_last event time ready =
      let (others, schedule, at, waits) = ready.possible in
      let (late, left, at_last) = are.least.at in
      let before = waits late left in
      let most = are.latest.most others schedule late (omega (arith, are.one_each, left_within done late left)) in
      omega (arith, ints)

  -- and its soonest time from then on is then
  ready_at_last : (event : ℕ) (time : ℤ) → IsReady bounds done event time → times event ≡ last
  ready_at_last event time ready =
      let before = ready_by_last event time ready in
      let (others, schedule, at, waits) = ready.possible in
      let after = are.soonest.waits event ready.left in
      let least = are.soonest.least (λ y. int_min (times y) (others y +ℤ (last -ℤ time)))
      (lesser_schedule bounds times others (last -ℤ time) are.soonest.schedule schedule (omega (arith, ints)))
      (λ other left. let one = are.soonest.waits other left in let two = waits other left in omega (arith, ints, clamps)) event ready.left in
      omega (arith, ints, clamps)

  -- it comes no earlier than it can
  earliest_by : (event : ℕ) (time : ℤ) → IsReady bounds done event time → earliest event ≤ℤ time
  earliest_by event time ready = grind (arith, left_within)

  -- such an event may run from its earliest time on until then
  ready_from_earliest : (event : ℕ) (time : ℤ) → IsLeft done event → times event ≡ last → earliest event ≤ℤ time → time ≤ℤ last → IsReady bounds done event time
  ready_from_earliest event time left at after before = record {
    left = left;
    possible = (
      (λ y. int_max (earliest y) (times y -ℤ (last -ℤ time))),
      greater_schedule bounds earliest times (last -ℤ time) (earliest_schedule bounds events earliest are.named are.earliest) are.soonest.schedule (omega (arith, ints)),
      omega (arith, ints, clamps),
      (λ other is_left. let waits = are.soonest.waits other is_left in omega (arith, ints, clamps)),
    );
  }

  -- the times from now on at which it may run
  pub ready_until_last : (event : ℕ) (now first : ℤ) → IsLeft done event → times event ≡ last → now ≤ℤ last → first ≡ ord_max int_cmp (earliest event) now
      → AreReadyTimes bounds done now event (Some (first, last))
  ready_until_last event now first left at in_time is =
      let early : earliest event ≤ℤ last = (let least = are.earliest.least times are.soonest.schedule event (omega (arith, are.one_each, left_within done event left)) in omega (arith, ints)) in (
        (later_of (earliest event) now first last is).1 (early, in_time),
        λ time. (
          (λ h. ((later_of (earliest event) now first time is).1 (earliest_by event time h.1, h.0), ready_by_last event time h.1)),
          (λ h. let (after, later) = (later_of (earliest event) now first time is).0 h.0 in (later, ready_from_earliest event time left at after h.1)),
        ),
      )

  -- no other event may run
  pub ready_never : (event : ℕ) (now : ℤ) → times event ≢ last → AreReadyTimes bounds done now event None
  ready_never event now other time later ready = other (ready_at_last event time ready)

module _ (times : ℕ → ℤ) (done : List Bool) where
  pub run_pushed : (number event : ℕ) (time : ℤ) (runs : List (ℤ × ℕ)) → event ≡ number → time ≡ times number → IsLeft done event → AreRunsBelow times done number runs
      → AreRunsBelow times done (number + 1) (runs ++ (time, event) ∷ [])
  run_pushed number event time runs is at left are = record {
    at = All-push (λ (run : ℤ × ℕ). IsLeft done run.1 × (run.0 ≡ times run.1)) runs (time, event) are.at (left, at ∙ ap times (sym is));
    once = λ other below is_left. search (rules, cases_eq, sum_by_push, eq-eqb, ne_eqb);
    others = λ other past. omega (arith, are.others other (omega arith), sum_by_push (runs_at other) runs (time, event), ap one_or_none (ne_eqb event other (λ same. absurd (omega arith))));
  }

  pub run_kept : (number event : ℕ) (runs : List (ℤ × ℕ)) → event ≡ number → ¬ IsLeft done event → AreRunsBelow times done number runs → AreRunsBelow times done (number + 1) runs
  run_kept number event runs is not_left are = record {
    at = are.at;
    once = λ other below left. search (rules, cases_lt);
    others = λ other past. are.others other (omega arith);
  }

  -- by time, by number
  abbrev pub by_turn : ℤ × ℕ → ℤ × ℕ → Ordering
  by_turn x y = ordering_then (int_cmp x.0 y.0) (nat_cmp x.1 y.1)

  turns : IsTotalOrder by_turn
  turns = search rules

  -- what the other is not less than comes before it
  not_less : (a b : ℤ × ℕ) (first second : Ordering) → MatchOrdering first (b.0 <ℤ a.0) (b.0 ≡ a.0) (a.0 <ℤ b.0)
      → MatchOrdering second (b.1 < a.1) (b.1 ≡ a.1) (a.1 < b.1) → is_lt (ordering_then first second) ≡ false → RunsBefore a b
  not_less a b first second p q e = search rules

  sorted_in_order : (xs : List (ℤ × ℕ)) → IsSorted by_turn xs → AllPairs RunsBefore xs
  sorted_in_order xs sorted = λ i j d before within.
      let a = get_or xs i d in
      let b = get_or xs j d in
      not_less a b (int_cmp b.0 a.0) (nat_cmp b.1 a.1) (int_ranks b.0 a.0) (ranks b.1 a.1)
      (sorted_far (λ x y. is_lt (by_turn x y)) (ranks_by turns (λ (x : ℤ × ℕ). x)) xs sorted i j d (omega arith) within)

  -- the runs of all events, once they are sorted
  pub runs_sorted : (limit : ℕ) (before after : List (ℤ × ℕ)) → length done ≤ limit → AreRunsBelow times done limit before → IsPermutation before after → IsSorted by_turn after → AreRuns times done after
  runs_sorted limit before after all are moved sorted =
      record {
        each = All-permutation (λ (run : ℤ × ℕ). IsLeft done run.1 × (run.0 ≡ times run.1)) before after moved are.at;
        once = λ event left. sum_by-IsPermutation (runs_at event) before after moved ∙ are.once event (omega (arith, all, left_within done event left)) left;
        order = sorted_in_order after sorted;
      }
