-- Schedules of a plan and of the loosened plan.
use Rattle.std.{specs.List.AllByRecursion, proofs.{Common.{rules, zero, suc, [], ◌∷◌, ◌≢◌, ℕ, ℤ, pos, ◌<◌, ◌≤◌, ◌≤ℤ◌, Ordering, Less, Equal, Greater, List, ◌++◌, get_or, length, ◌*◌, sym, ap, subst, ◌∙◌, arith, append_assoc, All}, lemmas.List.{length-map, Sorted.{All-permutation, IsPermutation-sym, IsPermutation-append_right}, Elements.{All-nil, All-append, All-map, All-from_recursion}}}}
use Rattle.stn_net.{proofs.{Widest.{horizon_each, horizon_times}, Schedules.schedule_permuted}, specs.{Difference.{Difference, NamesEvents}, Horizon.horizon_bounds, Schedule.{Meets, IsSchedule, times_of}}}
use Rattle.stn_time.specs.Time.{horizon}
use Rattle.stn_lift.{specs.{Activities.Activity, Timelines.IsTimed, BaseBounds.{order_bound, events_interfere, event_times, duration_of, KeepsOrder}, PlanSource.{PlanSource, bare, files, events_of, activities_of, base_bounds, planned_of, interfere_in_plan, IsSoundSource}}, proofs.{SoundBounds.{each_order, orders_keep}, FewBounds.{length-duration_bounds, duration_at}, SoundSource.activities_timed}}
use Rattle.stn_loosen.{specs.{Slack.{Slack, IsSlack, loose}, Loosened.{durations_of, orders_of, Imply, bounds_with, loose_durations, AreLoosened}, Robust.loose_bounds, Asked.KeepPlan}, proofs.{Lists.{in_first, in_second, in_third}, Kept.{kept_hold, whole_schedule}, ThreeParts.{parted, few_durations}, Settings.IsBetween, Steps.source_steps}}

-- no duration of a plan is negative
lasts_at : (steps : List Activity) → AllByRecursion IsTimed steps → (place : ℕ) → pos 0 ≤ℤ duration_of steps place
lasts_at [] all place = omega arith
lasts_at (step ∷ steps) all zero = all.0.duration
lasts_at (step ∷ steps) all (suc place) = lasts_at steps all.1 place

pub durations_last : (source : PlanSource) → All (λ bound. pos 0 ≤ℤ bound.lo) (durations_of source)
durations_last source = search (rules, duration_at, length-duration_bounds, lasts_at, activities_timed)

-- a time lies from 0 to the horizon
abbrev IsWithin : ℤ → Type 0
IsWithin time = (pos 0 ≤ℤ time) × (time ≤ℤ horizon)

-- with slack a duration is met where it is met without
loose_met : (slack : Slack) → IsSlack slack → (time : ℕ → ℤ) (bound : Difference) → pos 0 ≤ℤ bound.lo → IsWithin (time bound.from) → IsWithin (time bound.to)
    → Meets time bound → Meets time (loose slack bound)
loose_met slack sound time bound lasts from to met = search rules

-- an order is between two events
abbrev Differs : Difference → Type 0
Differs bound = bound.from ≢ bound.to

orders_differ : (source : PlanSource) → All Differs (orders_of source)
orders_differ (bare steps) = All-nil Differs
orders_differ (files domain plan) =
    let steps = activities_of domain plan in
    All-from_recursion Differs (orders_of (files domain plan))
    (each_order (events_interfere steps) (times_of (event_times steps)) (duration_of steps) (length steps) Differs (λ one other first later last. differ one other later _) (2 * length steps))
  where
    differ : (one other : ℕ) → one < other → (order : Ordering) → Differs (order_bound one other order)
    differ one other less Less = λ same. omega (arith, same)
    differ one other less Equal = λ same. omega (arith, same)
    differ one other less Greater = λ same. omega (arith, same)

module _ (source : PlanSource) where
  abbrev horizons : List Difference
  horizons = horizon_bounds (events_of source)

  -- what holds of the plan's own bounds
  module _ (P : Difference → Type 0) (all : All P (base_bounds source)) where
    parts : All P (horizon_bounds (events_of source) ++ (durations_of source ++ orders_of source))
    parts = subst (All P) (parted source) all

    horizons_hold : All P (horizon_bounds (events_of source))
    horizons_hold = in_first horizons (durations_of source) (orders_of source) P parts

    durations_hold : All P (durations_of source)
    durations_hold = in_second horizons (durations_of source) (orders_of source) P parts

    pub orders_hold : All P (orders_of source)
    orders_hold = in_third horizons (durations_of source) (orders_of source) P parts

  module _ (sound : IsSoundSource source) where
    pub durations_named : All (NamesEvents (events_of source)) (durations_of source)
    durations_named = durations_hold (NamesEvents (events_of source)) sound.named

    pub orders_named : All (NamesEvents (events_of source)) (orders_of source)
    orders_named = orders_hold (NamesEvents (events_of source)) sound.named

    -- the bounds of the loosened plan are between its events
    pub all_between : (slack : Slack) → All (IsBetween (events_of source)) (loose_bounds source slack)
    all_between slack =
        All-append (IsBetween (events_of source)) horizons (loose_durations slack source ++ orders_of source)
        (horizon_each (IsBetween (events_of source)) (events_of source) (λ event beside last. record { differs = λ same. beside (sym same); named = record { from = omega arith; to = last } }))
        (All-append (IsBetween (events_of source)) (loose_durations slack source) (orders_of source) lasting (λ k d below. record { differs = orders_differ source k d below; named = orders_named k d below }))
      where
        lasting : All (IsBetween (events_of source)) (loose_durations slack source)
        lasting k d below =
            let step = (source_steps slack source).each k d below in
            let last : (get_or (loose_durations slack source) k d).to ≤ events_of source = omega (arith, step.1, below, few_durations source, length-map (durations_of source) (loose slack)) in
            record { differs = λ same. omega (arith, step.0, step.1, same); named = record { from = omega (arith, step.0, step.1, last); to = last } }

    module _ (time : ℕ → ℤ) (schedule : IsSchedule (base_bounds source) time) (slack : Slack) (is : IsSlack slack) where
      within : (event : ℕ) → event ≤ events_of source → IsWithin (time event)
      within = horizon_times (events_of source) time (record { origin = schedule.origin; met = horizons_hold (Meets time) schedule.met })

      pub loose_durations_met : All (Meets time) (loose_durations slack source)
      loose_durations_met =
          All-map (Meets time) (loose slack) (durations_of source)
          (λ k d below.
          let bound = get_or (durations_of source) k d in
          let named = durations_named k d below in
          loose_met slack is time bound (durations_last source k d below) (within bound.from named.from) (within bound.to named.to) (durations_hold (Meets time) schedule.met k d below))

      -- it meets the durations with slack, and whatever else it meets
      pub loose_schedule : (others : List Difference) → All (Meets time) others → IsSchedule (bounds_with source (loose_durations slack source ++ others)) time
      loose_schedule others met = record {
        origin = schedule.origin;
        met = All-append (Meets time) horizons (loose_durations slack source ++ others) (horizons_hold (Meets time) schedule.met)
            (All-append (Meets time) (loose_durations slack source) others loose_durations_met met);
      }

  -- the schedules of the records of the loosened plan are those of all its bounds
  module _ (slack : Slack) (records : List Difference) (are : AreLoosened source slack records) where
    pub kept_of : (P : Difference → Type 0) → All P (orders_of source) → All P are.made.kept
    kept_of P all =
        kept_hold P (bounds_with source (loose_durations slack source)) are.orders are.made.kept are.made.chosen (All-permutation P (orders_of source) are.orders are.sorted.same all)

    module _ (time : ℕ → ℤ) where
      pub fewer : IsSchedule (loose_bounds source slack) time → IsSchedule (bounds_with source records) time
      fewer schedule =
          let durations = loose_durations slack source in
          subst (λ l. IsSchedule (bounds_with source l) time) (sym are.made.whole) (record {
            origin = schedule.origin;
            met = All-append (Meets time) horizons (durations ++ are.made.kept) (in_first horizons durations (orders_of source) (Meets time) schedule.met)
                (All-append (Meets time) durations are.made.kept (in_second horizons durations (orders_of source) (Meets time) schedule.met)
                (kept_of (Meets time) (in_third horizons durations (orders_of source) (Meets time) schedule.met)));
          })

      pub all_of : IsSchedule (bounds_with source records) time → IsSchedule (loose_bounds source slack) time
      all_of schedule =
          let front = bounds_with source (loose_durations slack source) in
          let whole = subst (λ l. IsSchedule l time) (ap (bounds_with source) are.made.whole ∙ sym (append_assoc horizons (loose_durations slack source) are.made.kept)) schedule in
          subst (λ l. IsSchedule l time) (append_assoc horizons (loose_durations slack source) (orders_of source))
          (schedule_permuted (front ++ are.orders) (front ++ orders_of source) (IsPermutation-append_right front are.orders (orders_of source) (IsPermutation-sym (orders_of source) are.orders are.sorted.same)) time
          (whole_schedule front are.orders are.made.kept are.made.chosen time whole))

    -- so it implies each order
    pub orders_implied : All (Imply (bounds_with source records)) (orders_of source)
    orders_implied k d below time schedule = in_third horizons (loose_durations slack source) (orders_of source) (Meets time) (all_of time schedule).met k d below

    -- and each schedule of the plan is one of the loosened plan
    pub looser : IsSoundSource source → IsSlack slack → (time : ℕ → ℤ) → IsSchedule (base_bounds source) time → IsSchedule (bounds_with source records) time
    looser sound is time schedule = fewer time (loose_schedule sound time schedule slack is (orders_of source) (orders_hold (Meets time) schedule.met))

-- where all orders of a plan are implied, the order of events that interfere is kept
pub order_kept : (source : PlanSource) (records : List Difference) → All (Imply (bounds_with source records)) (orders_of source)
    → KeepsOrder (events_of source) (interfere_in_plan source) (planned_of source) (bounds_with source records)
order_kept (bare steps) records implied = search rules
order_kept (files domain plan) records implied =
    let steps = activities_of domain plan in
    orders_keep (events_interfere steps) (times_of (event_times steps)) (duration_of steps) (length steps) (bounds_with (files domain plan) records) (λ time schedule k d below. implied k d below time schedule)

-- the loosened plan keeps the plan
pub keeps_plan : (source : PlanSource) (slack : Slack) (records : List Difference) → AreLoosened source slack records → IsSoundSource source → IsSlack slack
    → KeepPlan source (bounds_with source records)
keeps_plan source slack records are sound is =
    let implied = orders_implied source slack records are in
    record { looser = looser source slack records are sound is; implied = implied; ordered = order_kept source records implied }
