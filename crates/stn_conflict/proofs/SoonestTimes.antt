-- The earliest, the latest and the soonest times that a search finds.
use Rattle.std.{proofs.{Common.{rules, ◌≡◌, ℕ, ℤ, pos, ◌+◌, ◌≤◌, ◌≤ℤ◌, neg_ℤ, Bool, List, ◌++◌, length, map, append_assoc, arith}, lemmas.{Int.ints, List.{get_or-map, Elements.All-append}}}, specs.Prelude.{Vec, All, Option, Some, None, MatchOption}}
use Rattle.stn_time.specs.Time.{horizon}
use Rattle.stn_net.{specs.{Difference.{Difference, NamesEvents}, Schedule.{IsSchedule, HasSchedule, times_of}, Windows.{Dispatch.{IsLeft, CanWaitUntil}, Leading.AreFloorsBelow, Soonest.{AreEarliest, AreLatest, AreSoonest}}}, proofs.{Readiness.left_within, Ends.{earliest_of_tightest, latest_of_tightest}, Floors.{waits_above, soonest_of_earliest}}}
use Rattle.stn_conflict.{specs.{declared.relaxation.Search.Search, Distances.{AreDistancesFrom, AreDistancesTo}, Relaxation.{AreDistances, HasTables, IsNetwork}}, proofs.Relaxing.network_near}

-- the distances that a search has found
pub distances_of : {A : Type 0} {bounds : List Difference} {events event : ℕ} (search : Search A) → HasTables (events + 1) search × AreDistances bounds event search.far.items
    → AreDistancesFrom bounds events event search.far.items
distances_of search (tables, far) = omega arith

-- how long after each event the origin can come at the most, with the signs changed: the earliest times
pub earliest_opposite : {bounds : List Difference} {events : ℕ} {far : List ℤ} → AreDistancesTo bounds events 0 far → AreEarliest bounds events (times_of (map neg_ℤ far))
earliest_opposite {bounds} {events} {far} d =
    let are = earliest_of_tightest bounds events (times_of far) d.tightest in
    let at : (event : ℕ) → event ≤ events → times_of (map neg_ℤ far) event ≡ neg_ℤ (times_of far event) = λ event within. get_or-map neg_ℤ far event (pos 0) (pos 0) (omega (arith, d.long)) in
    record {
      taken = λ event within. rw (at event within) (are.taken event within);
      least = λ others schedule event within. rw (at event within) (are.least others schedule event within);
    }

-- how long after the origin each event can come at the most: the latest times
pub found_latest : {A : Type 0} (bounds : List Difference) (events : ℕ) (found : Option (Vec ℤ A))
    → MatchOption found (¬ HasSchedule bounds) (λ far. AreDistancesFrom bounds events 0 far.items)
    → MatchOption found (¬ HasSchedule bounds) (λ times. (length times.items ≡ events + 1) × AreLatest bounds events (times_of times.items))
found_latest bounds events found none = search (rules, latest_of_tightest)

module _ (base extra floors : List Difference) (events : ℕ) (done : List Bool) (now : ℤ) (network : IsNetwork events (base ++ extra)) (one_each : length done ≡ events + 1)
    (named : All (NamesEvents events) floors) (are : AreFloorsBelow done now (length done) floors) where
  by_horizon : (times : ℕ → ℤ) → IsSchedule (base ++ extra) times → (event : ℕ) → IsLeft done event → times event ≤ℤ horizon
  by_horizon times schedule event left =
      let near = network_near network schedule 0 event (omega arith) (omega (arith, left_within done event left)) in
      omega (arith, ints)

  -- the earliest times of the bounds and the floors are the soonest of the bounds
  pub found_soonest : {A : Type 0} (found : Option (Vec ℤ A))
      → MatchOption found (¬ HasSchedule (base ++ (extra ++ floors))) (λ times. (length times.items ≡ events + 1) × AreEarliest (base ++ (extra ++ floors)) events (times_of times.items))
      → MatchOption found (¬ CanWaitUntil (base ++ extra) done now) (λ times. (length times.items ≡ events + 1) × AreSoonest (base ++ extra) done now (times_of times.items))
  found_soonest None none = λ can. none (rw (append_assoc base extra floors) at ((waits_above (base ++ extra) floors done now are by_horizon).1 can))
  found_soonest (Some times) (long, earliest) = search (rules, soonest_of_earliest, by_horizon, All-append, append_assoc)
