-- What a rehearsal of all bounds says of a replica's plan.
use Rattle.std.{proofs.{Common.{rules, ◌≡◌, ℕ, ℤ, true, false, ◌+◌, ◌≤◌, Bool, List, length, get_or, take, map, not, ap, ◌∙◌, arith, get_or-take}, lemmas.{Int.ints, List.{Elements.All-filter, FromFn.fill_by_all}}}, specs.{List.range_with_len, FinMap.entries}}
use Rattle.stn_net.{specs.{Difference.Difference, Schedule.{IsSchedule, Meets}, Windows.{Dispatch.CanWaitUntil, Rehearsal.{IsRehearsal, NeverFalls, RunsEachOnce, HasScheduleThrough}}}, proofs.Schedules.met_behind}
use Rattle.stn_lift.specs.PlanSource.{PlanSource, base_bounds, events_of}
use Rattle.stn_records.{specs.{Id.SiteCounter, Record.{IsProper, is_done_mark as marks_done}, declared.record.{Mark.Mark, Record.Record}, Content.{Content, AllProper, live_of, is_replaced}, ContentLaws.{ids_total, ids_exact}}, proofs.Gets.entries_from_get}
use Rattle.stn_site.{specs.{Bounds.{all_bounds, live_bounds}, Dispatch.{KeepsRecorded, IsRestWith}}, proofs.Named.records_from_bounds}

-- the flags of the plan's events say which of them pass a test
pub flags_are : (test : ℕ → Bool) (source : PlanSource) (events : ℕ) (flags given : List Bool) → events ≡ events_of source → given ≡ take (events + 1) flags → length given ≡ events + 1
    → ((event : ℕ) → event ≤ events → get_or flags event false ≡ test event) → given ≡ map test (range_with_len 0 (events_of source + 1))
flags_are test source events flags given same is one_each says =
    rw (← same) (fill_by_all test given (events + 1) false one_each
    (λ k below. ap (λ (xs : List Bool). get_or xs k false) is ∙ get_or-take (events + 1) flags k false below ∙ says k (omega arith)))

-- a Done record fixes its event
fixes : (mark : Mark) (bound : Difference) → marks_done mark ≡ true → IsProper mark bound → (bound.from ≡ 0) × (bound.lo ≡ bound.hi)
fixes mark bound done proper = search rules

-- in a schedule of all bounds each event that is recorded as done takes its recorded time
pub keeps_recorded : (source : PlanSource) (state : Content) (times : ℕ → ℤ) → AllProper state.additions → IsSchedule (all_bounds source state) times → KeepsRecorded state times
keeps_recorded source state times all_proper schedule = λ k d h done.
    let entry = get_or (live_of state) k d in
    let met = records_from_bounds (Meets times) (live_of state) (met_behind (base_bounds source) (live_bounds state) times schedule) k d h in
    let proper = All-filter (λ (e : SiteCounter × Record). not (is_replaced state e.0)) (λ e. IsProper e.1.mark e.1.bound) (entries state.additions)
    (entries_from_get ids_total ids_exact state.additions (λ e. IsProper e.1.mark e.1.bound) all_proper) k d h in
    let fixed = fixes entry.1.mark entry.1.bound done proper in
    let from = ap times fixed.0 in
    let sides = fixed.1 in
    let origin = schedule.origin in
    omega (arith, ints)

-- a rehearsal of all bounds is the rest of the plan
pub rest_of_plan : (source : PlanSource) (state : Content) (done : List Bool) (now : ℤ) (runs : List (ℤ × ℕ)) → AllProper state.additions
    → IsRehearsal (all_bounds source state) done now runs → RunsEachOnce done runs → NeverFalls now runs
    → CanWaitUntil (all_bounds source state) done now → HasScheduleThrough (all_bounds source state) runs → IsRestWith source state done now runs
rest_of_plan source state done now runs all_proper rehearsal once rising in_time through = search (rules, keeps_recorded)
