-- Runs of bounds each of whose schedules is a promise.
use Rattle.std.{proofs.{Common.{rules, ◌≡◌, ◌≢◌, ℕ, ℤ, ◌-ℤ◌, ◌≤ℤ◌, cond, eqb, find, List, [], ◌∷◌, ◌++◌, get_or, Option, Some, None, refl, sym, ap, subst, ◌∙◌, arith, All}, lemmas.{Bool.{cond_both, eqb-true, eq-eqb, ne_eqb}, Int.ints, List.{get_or-map, length-map, Elements.{All-cons, All-map, All-contains}}}}, specs.Prelude.{◌↔◌, unwrap_or, Contains}}
use Rattle.stn_net.{proofs.{Closure.schedule_before, Schedules.{schedule_with, met_behind}}, specs.{Difference.Difference, Schedule.{Meets, IsSchedule, HasSchedule}, Windows.{Window.IsInWindow, Rehearsal.fixed_at}}}
use Rattle.stn_loosen.{specs.Promise.{still, setting_of, Follows}, proofs.{Robustness.IsRobust, Settings.keeps_itself}}
use Rattle.stn_laws.specs.Executions.{Execution, executed_bounds, MayCome, IsExecution}

-- in these times the executions came when they did
abbrev Came : (ℕ → ℤ) → Execution → Type 0
Came time execution = time execution.event ≡ execution.time

-- the bound that an execution sets
abbrev fixed : Execution → Difference
fixed execution = fixed_at execution.time execution.event

pub all_came : (bounds : List Difference) (run : List Execution) (time : ℕ → ℤ) → IsSchedule (bounds ++ executed_bounds run) time → All (Came time) run
all_came bounds run time schedule k d below =
    let met : Meets time (fixed (get_or run k d)) = subst (Meets time) (get_or-map fixed run k d (fixed d) below) (met_behind bounds (executed_bounds run) time schedule k (fixed d) (rw length-map below)) in
    omega (arith, ints, met.0, met.1, schedule.origin)

came_schedule : (bounds : List Difference) (run : List Execution) (time : ℕ → ℤ) → IsSchedule bounds time → All (Came time) run → IsSchedule (bounds ++ executed_bounds run) time
came_schedule bounds run time schedule came =
    schedule_with bounds (executed_bounds run) time schedule
    (All-map (Meets time) fixed run (λ k d below. let here = came k d below in (omega (arith, ints, schedule.origin, here), omega (arith, ints, schedule.origin, here))))

-- the times, with another of one event
abbrev moved_to : (ℕ → ℤ) → ℕ → ℤ → ℕ → ℤ
moved_to time event other one = cond (eqb one event) other (time one)

moved_here : (time : ℕ → ℤ) (event : ℕ) (other : ℤ) → moved_to time event other event ≡ other
moved_here time event other = cc (eq-eqb event event refl)

moved_beside : (time : ℕ → ℤ) (event : ℕ) (other : ℤ) (one : ℕ) → one ≢ event → moved_to time event other one ≡ time one
moved_beside time event other one differs = cc (ne_eqb one event differs)

module _ (durations bounds : List Difference) (robust : IsRobust durations bounds) where
  -- the end of a duration may come at each time that the duration lets it
  pub ends_at : (run : List Execution) (time : ℕ → ℤ) → IsSchedule (bounds ++ executed_bounds run) time → (event : ℕ) (other : ℤ) (duration : Difference) → setting_of durations event ≡ duration
      → All (λ execution. execution.event ≢ event) run → duration.lo ≤ℤ (other -ℤ time duration.from) → (other -ℤ time duration.from) ≤ℤ duration.hi
      → IsSchedule (bounds ++ executed_bounds run) (moved_to time event other)
  ends_at run time schedule event other duration sets new least most =
      let front = schedule_before bounds (executed_bounds run) time schedule in
      came_schedule bounds run (moved_to time event other)
      (robust.promised time front (moved_to time event other) (λ one. cond_both (eqb one event) other (time one) (λ t. Follows time t (setting_of durations one))
      (λ here. subst (Follows time other) (sym (ap (setting_of durations) (eqb-true one event here) ∙ sets)) (least, most)) (λ beside. keeps_itself durations time (robust.lasting time front) one)))
      (λ k d below. moved_beside time event other (get_or run k d).event (new k d below) ∙ all_came bounds run time schedule k d below)

  started_at : (run : List Execution) (time : ℕ → ℤ) → IsSchedule (bounds ++ executed_bounds run) time → (event : ℕ) (start : ℤ) → Contains run (record { event = event; time = start }) → time event ≡ start
  started_at run time schedule event start has = All-contains (Came time) run (record { event = event; time = start }) (all_came bounds run time schedule) has

  came_more : (run : List Execution) (last : Execution) (time : ℕ → ℤ) → IsSchedule (bounds ++ executed_bounds run) time → time last.event ≡ last.time → IsSchedule (bounds ++ executed_bounds (last ∷ run)) time
  came_more run last time schedule came = search (rules, came_schedule, schedule_before, All-cons, all_came)

  -- with an execution more there is a schedule
  one_more : (run : List Execution) (last : Execution) → All (λ execution. execution.event ≢ last.event) run → HasSchedule (bounds ++ executed_bounds run)
      → (found : Option Difference) → find (λ (d : Difference). eqb d.to last.event) durations ≡ found → MayCome bounds run last.event last.time found → HasSchedule (bounds ++ executed_bounds (last ∷ run))
  one_more run last new s (Some duration) is lasts =
      let start : s.0 duration.from ≡ lasts.start = started_at run s.0 s.1 duration.from lasts.start lasts.started in (
        moved_to s.0 last.event last.time,
        came_more run last (moved_to s.0 last.event last.time)
            (ends_at run s.0 s.1 last.event last.time duration (ap (λ o. unwrap_or o (still last.event)) is) new (omega (arith, ints, start, lasts.least)) (omega (arith, ints, start, lasts.most)))
            (moved_here s.0 last.event last.time),
      )
  one_more run last new s None is within = (within.0, came_more run last within.0 within.1 within.2)

  -- a run always has a schedule
  pub run_possible : HasSchedule bounds → (run : List Execution) → IsExecution durations bounds run → HasSchedule (bounds ++ executed_bounds run)
  run_possible possible [] none = search rules
  run_possible possible (last ∷ run) is = one_more run last is.1 (run_possible possible run is.0) (find (λ (d : Difference). eqb d.to last.event) durations) refl is.2

  -- the window of the end of a duration that has begun
  pub end_window : (run : List Execution) → HasSchedule (bounds ++ executed_bounds run) → (duration : Difference) → Contains durations duration → setting_of durations duration.to ≡ duration
      → All (λ execution. execution.event ≢ duration.to) run → (start : ℤ) → Contains run (record { event = duration.from; time = start }) → (time : ℤ)
      → (IsInWindow (bounds ++ executed_bounds run) duration.to time ↔ ((duration.lo ≤ℤ (time -ℤ start)) × ((time -ℤ start) ≤ℤ duration.hi)))
  end_window run s duration has own new start started time = (
    λ within.
        let begun : within.0 duration.from ≡ start = started_at run within.0 within.1 duration.from start started in
        let met : Meets within.0 duration = All-contains (Meets within.0) durations duration (robust.lasting within.0 (schedule_before bounds (executed_bounds run) within.0 within.1)) has in
        (omega (arith, ints, begun, within.2, met.0), omega (arith, ints, begun, within.2, met.1)),
    λ lasts.
        let begun : s.0 duration.from ≡ start = started_at run s.0 s.1 duration.from start started in (
          moved_to s.0 duration.to time,
          ends_at run s.0 s.1 duration.to time duration own new (omega (arith, ints, begun, lasts.0)) (omega (arith, ints, begun, lasts.1)),
          moved_here s.0 duration.to time,
        ),
  )
