-- The events that are ready: each once, and in their order.
use Rattle.std.{proofs.{lemmas.{Grind.common_steps, Bool.{cases_lt, eq-eqb, ne_eqb}, List.{Sorted.{sorted_far, ranks_by}, Sums.sum_by_push}, Cmp.{nat_cmp_total, int_cmp_total, on_total, then_total}}, Common.{rules, ◌≡◌, ◌≢◌, ℕ, ℤ, ◌+◌, ◌<◌, ◌≤ℤ◌, ◌<ℤ◌, Bool, false, cond, eqb, List, [], ◌∷◌, ◌++◌, get_or, Some, None, Ordering, arith}}, specs.{Cmp.{IsTotalOrder, ranks, int_ranks}, List.{AllPairs, count_by, Sorted.IsSorted}, Ordering.{MatchOrdering, nat_cmp, int_cmp, is_lt, ordering_then}}}
use Rattle.stn_net.specs.{Difference.Difference, Windows.Dispatch.{IsReady, AreReadyTimes}}
use Rattle.stn_questions.specs.{declared.ready_event.ReadyEvent.ReadyEvent, Ready.IsBefore}

-- by first time, by number, by last time
abbrev pub by_turn : ReadyEvent → ReadyEvent → Ordering
by_turn x y = ordering_then (int_cmp x.first y.first) (ordering_then (nat_cmp x.event y.event) (int_cmp x.last y.last))

turns : IsTotalOrder by_turn
turns =
    then_total (on_total (λ (x : ReadyEvent). x.first) int_cmp_total)
    (then_total (on_total (λ (x : ReadyEvent). x.event) nat_cmp_total) (on_total (λ (x : ReadyEvent). x.last) int_cmp_total))

-- what the other is not less than comes before it
not_less : (a b : ReadyEvent) (first second third : Ordering) → MatchOrdering first (b.first <ℤ a.first) (b.first ≡ a.first) (a.first <ℤ b.first)
    → MatchOrdering second (b.event < a.event) (b.event ≡ a.event) (a.event < b.event)
    → is_lt (ordering_then first (ordering_then second third)) ≡ false → IsBefore a b
not_less a b first second third p q e = search rules

-- a sorted list is in order
pub sorted_in_order : (xs : List ReadyEvent) → IsSorted by_turn xs → AllPairs IsBefore xs
sorted_in_order xs sorted = λ i j d before within.
    let a = get_or xs i d in
    let b = get_or xs j d in
    not_less a b (int_cmp b.first a.first) (nat_cmp b.event a.event) (int_cmp b.last a.last) (int_ranks b.first a.first) (ranks b.event a.event)
    (sorted_far (λ x y. is_lt (by_turn x y)) (ranks_by turns (λ (x : ReadyEvent). x)) xs sorted i j d (omega arith) within)

-- how often an event stands in a list
abbrev pub counted : List ReadyEvent → ℕ → ℕ
counted ready event = count_by (λ one. eqb one.event event) ready

pushed : (ready : List ReadyEvent) (one : ReadyEvent) (event : ℕ) (same : Bool) → eqb one.event event ≡ same → counted (ready ++ one ∷ []) event ≡ counted ready event + cond same 1 0
pushed ready one event same is = search (rules, sum_by_push)

-- one more of another event
pub pushed_other : (ready : List ReadyEvent) (one : ReadyEvent) (event : ℕ) → one.event ≢ event → counted (ready ++ one ∷ []) event ≡ counted ready event
pushed_other ready one event other = grind (arith, common_steps, ne_eqb)

-- one more of this
pub pushed_same : (ready : List ReadyEvent) (one : ReadyEvent) (event : ℕ) → one.event ≡ event → counted (ready ++ one ∷ []) event ≡ counted ready event + 1
pushed_same ready one event same = grind (arith, common_steps, eq-eqb)

module _ (bounds : List Difference) (done : List Bool) (now : ℤ) where
  -- the times from now on at which the event may run are those from its first to its last
  abbrev pub HasTimes : ReadyEvent → Type 0
  HasTimes one = AreReadyTimes bounds done now one.event (Some (one.first, one.last))

  -- each of the events with numbers below the limit that may run from now on stands once in the list
  abbrev pub HasEachBelow : ℕ → List ReadyEvent → Type 0
  HasEachBelow limit ready = (event : ℕ) (time : ℤ) → event < limit → now ≤ℤ time → IsReady bounds done event time → counted ready event ≡ 1

  -- one more that may run
  pub ready_pushed : (ready : List ReadyEvent) (one : ReadyEvent) (number : ℕ) → one.event ≡ number → counted ready number ≡ 0
      → HasEachBelow number ready → HasEachBelow (number + 1) (ready ++ one ∷ [])
  ready_pushed ready one number is none each event time below later able = grind (arith, common_steps, cases_lt, pushed_same)

  -- one more that may not
  pub ready_kept : (ready : List ReadyEvent) (number event : ℕ) → event ≡ number → AreReadyTimes bounds done now event None
      → HasEachBelow number ready → HasEachBelow (number + 1) ready
  ready_kept ready number event is never each other time below later able = search rules
