-- Floors: bounds that let no event that is left come before now.
use Rattle.std.{proofs.{lemmas.{Int.ints, Bool.cases_lt, List.Elements.{All-append, All-contains, All-push, Contains-append_left, Contains-push}}, Common.{◌≡◌, inl, inr, ℕ, ℤ, ◌+◌, ◌≤ℤ◌, ◌↔◌, Bool, List, [], ◌∷◌, ◌++◌, length, get_or, refl, subst, arith}}, specs.{Prelude.All, List.Contains}}
use Rattle.stn_time.{proofs.Each.All-right, specs.Time.horizon}
use Rattle.stn_net.{specs.{Difference.{Difference, NamesEvents}, Schedule.{IsSchedule, HasSchedule, Meets}, Windows.{Dispatch.{IsLeft, LeavesNoneBefore, CanWaitUntil}, Leading.{floor_at, AreFloorsBelow}, Soonest.{AreEarliest, AreSoonest}}}, proofs.{Closure.schedule_before, Readiness.left_within, Ends.earliest_schedule}}

-- a schedule of the bounds and the floors is one in which no event that is left comes before now
pub schedule_above : (bounds floors : List Difference) (done : List Bool) (now : ℤ) (times : ℕ → ℤ) → AreFloorsBelow done now (length done) floors
    → IsSchedule (bounds ++ floors) times → IsSchedule bounds times × LeavesNoneBefore done times now
schedule_above bounds floors done now times are schedule = (
  schedule_before bounds floors times schedule,
  λ event left.
      let (low, high) = All-contains (Meets times) floors (floor_at now event) (All-right (Meets times) bounds floors schedule.met) (are.every event (left_within done event left) left) in
      omega (arith, ints),
)

-- and the other way round, where each event comes by the horizon
pub above_schedule : (bounds floors : List Difference) (done : List Bool) (now : ℤ) (times : ℕ → ℤ) → AreFloorsBelow done now (length done) floors
    → IsSchedule bounds times → LeavesNoneBefore done times now → ((event : ℕ) → IsLeft done event → times event ≤ℤ horizon) → IsSchedule (bounds ++ floors) times
above_schedule bounds floors done now times are schedule waits by_horizon = record {
  origin = schedule.origin;
  met = All-append (Meets times) bounds floors schedule.met (λ k d below.
      let (left, is) = are.each k d below in
      let floor = get_or floors k d in
      let after = waits floor.to left in
      let before = by_horizon floor.to left in
      let met : Meets times (floor_at now floor.to) = (omega (arith, ints), omega (arith, ints)) in
      rw is met);
}

-- one more event, which is left
pub floor_pushed : (done : List Bool) (now : ℤ) (number : ℕ) (floors : List Difference) → IsLeft done number → AreFloorsBelow done now number floors
    → AreFloorsBelow done now (number + 1) (floors ++ floor_at now number ∷ [])
floor_pushed done now number floors left are = record {
  each = All-push (λ floor. IsLeft done floor.to × (floor ≡ floor_at now floor.to)) floors (floor_at now number) are.each (left, refl);
  every = λ event below is_left.
      elim (cases_lt event number) [
        | inl before ↦ Contains-append_left floors (floor_at now number ∷ []) (floor_at now event) (are.every event before is_left)
        | inr here ↦ (let same : number ≡ event = omega arith in subst (λ n. Contains (floors ++ floor_at now number ∷ []) (floor_at now n)) same (Contains-push floors (floor_at now number)))
      ];
}

-- one more that is not
pub floor_kept : (done : List Bool) (now : ℤ) (number : ℕ) (floors : List Difference) → ¬ IsLeft done number → AreFloorsBelow done now number floors
    → AreFloorsBelow done now (number + 1) floors
floor_kept done now number floors not_left are = grind (arith)

module _ (bounds floors : List Difference) (done : List Bool) (now : ℤ) (are : AreFloorsBelow done now (length done) floors)
    (by_horizon : (times : ℕ → ℤ) → IsSchedule bounds times → (event : ℕ) → IsLeft done event → times event ≤ℤ horizon) where
  -- the bounds with the floors have a schedule exactly where the plan can wait until now
  pub waits_above : HasSchedule (bounds ++ floors) ↔ CanWaitUntil bounds done now
  waits_above = (
    (λ has.
        let (times, schedule) = has in
        let (below, waits) = schedule_above bounds floors done now times are schedule in
        (times, below, waits)),
    (λ can. let (times, schedule, waits) = can in (times, above_schedule bounds floors done now times are schedule waits (by_horizon times schedule))),
  )

  -- their earliest times are the soonest
  pub soonest_of_earliest : (events : ℕ) (times : ℕ → ℤ) → length done ≡ events + 1 → All (NamesEvents events) (bounds ++ floors)
      → AreEarliest (bounds ++ floors) events times → AreSoonest bounds done now times
  soonest_of_earliest events times one_each named earliest =
      let (schedule, waits) = schedule_above bounds floors done now times are (earliest_schedule (bounds ++ floors) events times named earliest) in
      record {
        schedule = schedule;
        waits = waits;
        least = λ others is_schedule none event left.
            earliest.least others (above_schedule bounds floors done now others are is_schedule none (by_horizon others is_schedule)) event
            (omega (arith, left_within done event left));
      }
