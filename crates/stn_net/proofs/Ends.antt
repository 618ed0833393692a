-- The earliest and the latest times of a plan's events.
use Rattle.std.{proofs.{Common.{rules, ◌≡◌, ℕ, ℤ, ◌+◌, ◌≤◌, ◌<ℤ◌, ◌≤ℤ◌, ◌↔◌, ◌⊎◌, inl, inr, neg_ℤ, Bool, List, length, get_or, arith}, lemmas.Int.{ints, by_lt_z}}, specs.Prelude.All}
use Rattle.stn_net.{specs.{Difference.{Difference, NamesEvents}, Schedule.IsSchedule, Matrix.{Table.{Table, far_of}, Tightest.{IsTightest, IsExact}}, Windows.{Window.IsInWindow, Dispatch.{IsLeft, HasTimeFrom, IsOverdue, CanWaitUntil}, Leading.{NonePast, IsFirstPast}, Soonest.{AreEarliest, AreLatest}}}, proofs.Readiness.left_within}

-- how far the origin comes after each event at the most gives the earliest times
pub earliest_of_tightest : (bounds : List Difference) (events : ℕ) (back : ℕ → ℤ) → ((event : ℕ) → event ≤ events → IsTightest bounds event 0 (back event))
    → AreEarliest bounds events (λ event. neg_ℤ (back event))
earliest_of_tightest bounds events back tightest = record {
  taken = λ event within.
      let (times, schedule, attains) = (tightest event within).attained in
      (times, schedule, omega (arith, ints));
  least = λ others schedule event within.
      let least = (tightest event within).bound others schedule in
      omega (arith, ints);
}

-- how far each event comes after the origin at the most is its latest time
pub latest_of_tightest : (bounds : List Difference) (events : ℕ) (far : ℕ → ℤ) → ((event : ℕ) → event ≤ events → IsTightest bounds 0 event (far event))
    → AreLatest bounds events far
latest_of_tightest bounds events far tightest = record {
  taken = λ event within.
      let (times, schedule, attains) = (tightest event within).attained in
      (times, schedule, omega (arith, ints));
  most = λ others schedule event within.
      let most = (tightest event within).bound others schedule in
      omega (arith, ints);
}

-- those of an exact table
pub latest_of_exact : (bounds : List Difference) (table : Table) → IsExact bounds table → AreLatest bounds table.events (far_of table 0)
latest_of_exact bounds table exact = latest_of_tightest bounds table.events (far_of table 0) (λ event within. exact.far 0 event (omega arith) within)

-- times that are each taken in some schedule, and all come no later than those of any, or all no earlier, are a schedule
extreme_schedule : (bounds : List Difference) (events : ℕ) (times : ℕ → ℤ) → All (NamesEvents events) bounds → ((event : ℕ) → event ≤ events → IsInWindow bounds event (times event))
    → ((others : ℕ → ℤ) → IsSchedule bounds others → (event : ℕ) → event ≤ events → times event ≤ℤ others event)
    ⊎ ((others : ℕ → ℤ) → IsSchedule bounds others → (event : ℕ) → event ≤ events → others event ≤ℤ times event) → IsSchedule bounds times
extreme_schedule bounds events times named taken side = record {
  origin = (let (first, schedule, at) = taken 0 (omega arith) in let origin = schedule.origin in omega (arith, ints));
  met = λ k d below.
      let b = get_or bounds k d in
      let ends = named k d below in
      let (one, is_one, at_from) = taken b.from ends.from in
      let (other, is_other, at_to) = taken b.to ends.to in
      let (low, high) = is_one.met k d below in
      let (other_low, other_high) = is_other.met k d below in
      elim side [
        | inl least ↦ (let to = least one is_one b.to ends.to in let from = least other is_other b.from ends.from in (omega (arith, ints), omega (arith, ints)))
        | inr most ↦ (let to = most one is_one b.to ends.to in let from = most other is_other b.from ends.from in (omega (arith, ints), omega (arith, ints)))
      ];
}

pub earliest_schedule : (bounds : List Difference) (events : ℕ) (times : ℕ → ℤ) → All (NamesEvents events) bounds → AreEarliest bounds events times → IsSchedule bounds times
earliest_schedule bounds events times named are = search (rules, extreme_schedule)

pub latest_schedule : (bounds : List Difference) (events : ℕ) (times : ℕ → ℤ) → All (NamesEvents events) bounds → AreLatest bounds events times → IsSchedule bounds times
latest_schedule bounds events times named are = extreme_schedule bounds events times named are.taken (inr are.most)

module _ (bounds : List Difference) (events : ℕ) (latest : ℕ → ℤ) (done : List Bool) (are : AreLatest bounds events latest) (one_each : length done ≡ events + 1) where
  -- an event that is left is one of the plan's
  within : (event : ℕ) → IsLeft done event → event ≤ events
  within event left = search (rules, left_within)

  -- where the plan can wait, no latest time has passed
  pub waits_none_past : (now : ℤ) → CanWaitUntil bounds done now → NonePast latest done now
  waits_none_past now (times, schedule, waits) event left =
      let after = waits event left in
      let most = are.most times schedule event (within event left) in
      omega (arith, ints)

  -- where none has, it can
  pub none_past_waits : (now : ℤ) → All (NamesEvents events) bounds → NonePast latest done now → CanWaitUntil bounds done now
  none_past_waits now named none = search (rules, latest_schedule)

  -- an event whose latest time comes before now takes no time from now on, and no other does
  past_without_time : (now : ℤ) (event : ℕ) → IsLeft done event → (latest event <ℤ now) ↔ (¬ HasTimeFrom bounds now event)
  past_without_time now event left = (
    (λ past some.
        let (time, later, window) = some in
        let (times, schedule, at) = window in
        let most = are.most times schedule event (within event left) in
        omega (arith, ints)),
    (λ none. by_lt_z (latest event) now (λ before. before) (λ later. absurd (none (latest event, later, are.taken event (within event left))))),
  )

  -- where an event's latest time has passed, the least such event is overdue
  pub past_is_overdue : (now : ℤ) (event : ℕ) → IsFirstPast latest done now event → IsOverdue bounds done now event
  past_is_overdue now event past = record {
    none = λ time other later ready.
        let (times, schedule, at, waits) = ready.possible in
        let before = waits_none_past time (times, schedule, waits) event past.left in
        omega (arith, ints);
    left = past.left;
    past = (past_without_time now event past.left).0 past.past;
    least = λ other left none. past.first other left ((past_without_time now other left).1 none);
  }
