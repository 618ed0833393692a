-- Promises of the loosened plan, and the robust plan.
use Rattle.std.{proofs.{Common.{◌≡◌, ℕ, ℤ, pos, List, ◌++◌, sym, ap, subst, ◌∙◌, arith, append_assoc, All}, lemmas.{Int.ints, List.Elements.All-append}}, specs.Prelude.◌↔◌}
use Rattle.stn_net.{proofs.{Closure.schedule_before, Schedules.{met_behind, schedule_with}}, specs.{Difference.Difference, Horizon.horizon_bounds, Schedule.{Meets, IsSchedule, HasSchedule}}}
use Rattle.stn_time.proofs.Each.{All-left, All-right}
use Rattle.stn_lift.specs.PlanSource.{PlanSource, events_of, planned_of, IsSoundSource}
use Rattle.stn_loosen.{specs.{Slack.{Slack, IsSlack}, Promise.Promises, Moved.moved_bounds, Fragile.start_bounds, Robust.{loose_bounds, HasPromise, AreRobust}, Asked.KeepPromise, Loosened.{orders_of, bounds_with, loose_durations, AreLoosened}}, proofs.{Lists.{in_first, in_second, in_third}, Kept.{kept_schedule, whole_schedule}, Looser.{all_between, loose_durations_met, kept_of, fewer, all_of}, Steps.{source_steps, steps_apart}, Settings.{AreApart, BothSides, moved_all, moved_each, sides_alike, start_kept, durations_kept, moved_promise, latest_at, latest_keeps, latest_schedule, sides_met, promise_origin}}}

-- each schedule of the bounds meets the durations, and is a promise
pub record IsRobust (durations bounds : List Difference) : Type 0 where
  pub lasting : (time : ℕ → ℤ) → IsSchedule bounds time → All (Meets time) durations
  pub promised : (time : ℕ → ℤ) → IsSchedule bounds time → Promises durations bounds time

module _ (source : PlanSource) (sound : IsSoundSource source) (slack : Slack) (is : IsSlack slack) where
  abbrev durations : List Difference
  durations = loose_durations slack source

  abbrev horizons : List Difference
  horizons = horizon_bounds (events_of source)

  abbrev others : List Difference
  others = loose_durations slack source ++ orders_of source

  pub apart : AreApart (loose_durations slack source)
  apart = steps_apart durations (source_steps slack source)
      (λ k d below. let met = loose_durations_met source sound (planned_of source) sound.possible slack is k d below in omega (arith, ints, met.0, met.1))

  -- times that meet all moved bounds meet those of which the robust plan is made
  pub starts_met : (time : ℕ → ℤ) → time 0 ≡ pos 0 → All (BothSides (loose_durations slack source) (Meets time)) (loose_bounds source slack)
      → IsSchedule (moved_bounds (loose_durations slack source) (orders_of source ++ horizon_bounds (events_of source))) time
  starts_met time origin sides =
      let Both = BothSides durations (Meets time) in record {
        origin = origin;
        met = moved_all durations (Meets time) (orders_of source ++ horizons)
            (All-append Both (orders_of source) horizons (in_third horizons durations (orders_of source) Both sides) (in_first horizons durations (orders_of source) Both sides));
      }

  module _ (promised : ℕ → ℤ) (promise : Promises (loose_durations slack source) (loose_bounds source slack) promised) where
    each_side : All (BothSides (loose_durations slack source) (Meets promised)) (loose_bounds source slack)
    each_side = sides_met durations apart promised (events_of source) others promise (all_between source sound slack)

    pub promise_schedule : IsSchedule (moved_bounds (loose_durations slack source) (orders_of source ++ horizon_bounds (events_of source))) promised
    promise_schedule = starts_met promised (promise_origin durations apart promised (events_of source) others promise) each_side

    -- the times at which all durations are shortest
    abbrev shortest : ℕ → ℤ
    shortest = latest_at durations apart promised 0

    shortest_schedule : IsSchedule (loose_bounds source slack) shortest
    shortest_schedule = latest_schedule durations apart promised (events_of source) others promise 0

    shortest_sides : All (BothSides (loose_durations slack source) (Meets shortest)) (loose_bounds source slack)
    shortest_sides = sides_alike durations promised shortest (start_kept durations apart promised shortest (latest_keeps durations apart promised 0)) (loose_bounds source slack) each_side

    pub starts_schedule : HasSchedule (start_bounds source slack)
    starts_schedule = (
      shortest,
      schedule_with horizons (moved_bounds durations (loose_bounds source slack)) shortest (schedule_before horizons others shortest shortest_schedule)
          (moved_all durations (Meets shortest) (loose_bounds source slack) shortest_sides),
    )

  -- times that meet the moved bounds of some orders promise these and the rest of the plan
  orders_promised : (kept : List Difference) (promised : ℕ → ℤ) → IsSchedule (moved_bounds (loose_durations slack source) (kept ++ horizon_bounds (events_of source))) promised
      → Promises (loose_durations slack source) (bounds_with source (loose_durations slack source ++ kept)) promised
  orders_promised kept promised schedule time keeps =
      let front = moved_promise durations apart (kept ++ horizons) promised schedule time keeps in
      record {
        origin = front.origin;
        met = All-append (Meets time) horizons (durations ++ kept) (All-right (Meets time) kept horizons front.met)
            (All-append (Meets time) durations kept (durations_kept durations apart promised time keeps) (All-left (Meets time) kept horizons front.met));
      }

  -- the promises are the schedules of the moved bounds
  pub promise_iff : (promised : ℕ → ℤ) → (Promises (loose_durations slack source) (loose_bounds source slack) promised
      ↔ IsSchedule (moved_bounds (loose_durations slack source) (orders_of source ++ horizon_bounds (events_of source))) promised)
  promise_iff promised = (promise_schedule promised, orders_promised (orders_of source) promised)

  -- with a promise the loosened plan has a schedule that meets the moved bounds
  pub moved_possible : (loosened : List Difference) (are : AreLoosened source slack loosened) → HasPromise source slack
      → HasSchedule (bounds_with source loosened ++ moved_bounds (loose_durations slack source) (are.made.kept ++ horizon_bounds (events_of source)))
  moved_possible loosened are promise =
      let time : ℕ → ℤ = shortest promise.0 promise.1 in
      let sides = shortest_sides promise.0 promise.1 in
      let Both = BothSides durations (Meets time) in (
        time,
        schedule_with (bounds_with source loosened) (moved_bounds durations (are.made.kept ++ horizons)) time (fewer source slack loosened are time (shortest_schedule promise.0 promise.1))
            (moved_all durations (Meets time) (are.made.kept ++ horizons)
            (All-append Both are.made.kept horizons (kept_of source slack loosened are Both (in_third horizons durations (orders_of source) Both sides))
            (in_first horizons durations (orders_of source) Both sides))),
      )

  -- the records of the robust plan
  module _ (records : List Difference) (are : AreRobust source slack records) where
    abbrev front : List Difference
    front = bounds_with source are.loosened

    abbrev kept : List Difference
    kept = are.are_loosened.made.kept

    abbrev sides : List Difference
    sides = moved_bounds (loose_durations slack source) (are.are_loosened.made.kept ++ horizon_bounds (events_of source))

    whole : front ++ are.moved ≡ bounds_with source records
    whole = append_assoc horizons are.loosened are.moved ∙ ap (bounds_with source) (sym are.whole)

    -- their schedules are those of the loosened plan that meet all moved bounds
    with_sides : (time : ℕ → ℤ) → IsSchedule (bounds_with source records) time → IsSchedule (front ++ sides) time
    with_sides time schedule = whole_schedule front sides are.moved are.chosen time (subst (λ l. IsSchedule l time) (sym whole) schedule)

    from_sides : (time : ℕ → ℤ) → IsSchedule (front ++ sides) time → IsSchedule (bounds_with source records) time
    from_sides time schedule = subst (λ l. IsSchedule l time) whole (kept_schedule front sides are.moved are.chosen time schedule)

    pub records_loosened : (time : ℕ → ℤ) → IsSchedule (bounds_with source records) time → IsSchedule (loose_bounds source slack) time
    records_loosened time schedule = all_of source slack are.loosened are.are_loosened time (schedule_before front sides time (with_sides time schedule))

    promised_by : (promised : ℕ → ℤ) → IsSchedule (bounds_with source records) promised → Promises (loose_durations slack source) (bounds_with source records) promised
    promised_by promised schedule time keeps =
        let met = met_behind front sides promised (with_sides promised schedule) in
        let here : IsSchedule front time = subst (λ l. IsSchedule (bounds_with source l) time) (sym are.are_loosened.made.whole)
        (orders_promised kept promised (record { origin = schedule.origin; met = met }) time keeps) in
        from_sides time (schedule_with front sides time here (moved_all durations (Meets time) (kept ++ horizons)
        (sides_alike durations promised time (start_kept durations apart promised time keeps) (kept ++ horizons) (moved_each durations (Meets promised) (kept ++ horizons) met))))

    pub records_robust : IsRobust (loose_durations slack source) (bounds_with source records)
    records_robust = record {
      lasting = λ time schedule. in_second horizons durations (orders_of source) (Meets time) (records_loosened time schedule).met;
      promised = promised_by;
    }

    pub records_promise : HasPromise source slack ↔ HasSchedule (bounds_with source records)
    records_promise = (
      λ promise. let s = moved_possible are.loosened are.are_loosened promise in (s.0, from_sides s.0 s.1),
      λ s. (s.0, λ time keeps. records_loosened time (promised_by s.0 s.1 time keeps)),
    )

    -- with a promise they keep it
    pub keeps_promise : HasPromise source slack → KeepPromise source slack (bounds_with source records)
    keeps_promise promise = record { promise = promise; promised = promised_by; loosened = records_loosened }
