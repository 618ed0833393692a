use Rattle.std.{proofs.{lemmas.{Grind.common_steps, Int.ints, Bool.Decides.eqb_tells, List.{Sums.sum_by-cons, Elements.All-cons}}, Common.{rules, ◌≡◌, ◌≢◌, ℕ, ℤ, true, Bool, List, [], ◌∷◌, ◌++◌, cond, eqb, inl, inr, refl, sym, ap, ◌∙◌, arith}}, specs.Prelude.{slice_set, Result, Err, IfErr}}
use Rattle.stn_net.{specs.{Difference.Difference, Schedule.{IsSchedule, HasSchedule}, Matrix.{Table.Table, Tightest.IsExact}, declared.windows.answers.{Next.{Next, TheVariants.Overdue}, RehearseFault.{RehearseFault, TheVariants.Memory}}, Windows.{Dispatch.{IsLeft, IsReady, IsOverdue, IsNext, CanWaitUntil}, Rehearsal.{fixed_at, IsRehearsal, NeverFalls, RunsEachOnce, HasScheduleThrough, IsRehearseFault}}}, proofs.Closure.{schedule_before, schedule_last}}

-- a schedule that has the event at the time is one of the bounds and the fixed event
pub fixed_schedule : (bounds : List Difference) (times : ℕ → ℤ) (time : ℤ) (event : ℕ) → IsSchedule bounds times → times event ≡ time → IsSchedule (bounds ++ fixed_at time event ∷ []) times
fixed_schedule bounds times time event schedule at = grind (arith, common_steps)

-- an event that is ready can be fixed at its time
pub ready_can_be_fixed : (bounds : List Difference) (done : List Bool) (time : ℤ) (event : ℕ) → IsReady bounds done event time → HasSchedule (bounds ++ fixed_at time event ∷ [])
ready_can_be_fixed bounds done time event ready =
    (ready.possible.0, fixed_schedule bounds ready.possible.0 time event ready.possible.1 ready.possible.2)

-- what is left once an event is done is another event, which was left before
pub left_before : (done : List Bool) (event other : ℕ) → IsLeft done event → IsLeft (slice_set done event true) other → (other ≢ event) × IsLeft done other
left_before done event other was_left left = grind (arith, common_steps)

-- and another event that was left is left
pub left_after : (done : List Bool) (event other : ℕ) → IsLeft done other → other ≢ event → IsLeft (slice_set done event true) other
left_after done event other left differs = search rules

-- once an event has run, none is overdue from its time on
pub none_overdue_after : (bounds : List Difference) (done : List Bool) (time : ℤ) (event other : ℕ) → IsReady bounds done event time
    → ¬ IsOverdue (bounds ++ fixed_at time event ∷ []) (slice_set done event true) time other
none_overdue_after bounds done time event other ready overdue =
    let times = ready.possible.0 in
    overdue.past (
      times other,
      ready.possible.3 other (left_before done event other ready.left overdue.left).1,
      (times, fixed_schedule bounds times time event ready.possible.1 ready.possible.2, refl),
    )

-- some schedule has each event of a rehearsal at its time
pub rehearsed_schedule : (runs : List (ℤ × ℕ)) (bounds : List Difference) (done : List Bool) (now : ℤ) → HasSchedule bounds → IsRehearsal bounds done now runs → HasScheduleThrough bounds runs
rehearsed_schedule [] bounds done now possible rehearsal = search rules
rehearsed_schedule (run ∷ runs) bounds done now possible rehearsal =
    let rest = rehearsed_schedule runs (bounds ++ fixed_at run.0 run.1 ∷ []) (slice_set done run.1 true) run.0 (ready_can_be_fixed bounds done run.0 run.1 rehearsal.0.ready) rehearsal.1 in
    let times = rest.0 in
    let fixed = schedule_last bounds (fixed_at run.0 run.1) times rest.1 in
    let at : times run.1 ≡ run.0 = omega (arith, ints, fixed.0, fixed.1) in
    (times, schedule_before bounds (fixed_at run.0 run.1 ∷ []) times rest.1, All-cons (λ (run : ℤ × ℕ). times run.1 ≡ run.0) run runs at rest.2)

-- the times of a rehearsal never fall
pub rehearsed_rising : (runs : List (ℤ × ℕ)) (bounds : List Difference) (done : List Bool) (now : ℤ) → IsRehearsal bounds done now runs → NeverFalls now runs
rehearsed_rising [] bounds done now rehearsal = tt
rehearsed_rising (run ∷ runs) bounds done now rehearsal =
    (rehearsal.0.later, rehearsed_rising runs (bounds ++ fixed_at run.0 run.1 ∷ []) (slice_set done run.1 true) run.0 rehearsal.1)

-- where no event is overdue, the plan can wait
pub can_wait : (bounds : List Difference) (done : List Bool) (now : ℤ) (answer : Next) → HasSchedule bounds → IsNext bounds done now answer
    → ((event : ℕ) → answer ≢ Overdue event) → CanWaitUntil bounds done now
can_wait bounds done now answer possible next none = search rules

-- so can one that has a rehearsal
pub rehearsed_in_time : (runs : List (ℤ × ℕ)) (bounds : List Difference) (done : List Bool) (now : ℤ) → HasSchedule bounds → IsRehearsal bounds done now runs → CanWaitUntil bounds done now
rehearsed_in_time [] bounds done now possible rehearsal = search rules
rehearsed_in_time (run ∷ runs) bounds done now possible rehearsal = search rules

-- a plan in which an event is overdue can't
pub overdue_cannot_wait : (bounds : List Difference) (done : List Bool) (now : ℤ) (event : ℕ) → IsOverdue bounds done now event → ¬ CanWaitUntil bounds done now
overdue_cannot_wait bounds done now event overdue wait = search rules

abbrev pub one_or_none : Bool → ℕ
one_or_none test = cond test 1 0

abbrev pub runs_at : ℕ → ℤ × ℕ → ℕ
runs_at event run = one_or_none (eqb run.1 event)

-- each event that is left runs once in a rehearsal, and no other
pub rehearsed_once : (runs : List (ℤ × ℕ)) (bounds : List Difference) (done : List Bool) (now : ℤ) → IsRehearsal bounds done now runs → RunsEachOnce done runs
rehearsed_once [] bounds done now rehearsal = search rules
rehearsed_once (run ∷ runs) bounds done now rehearsal =
    let rest = rehearsed_once runs (bounds ++ fixed_at run.0 run.1 ∷ []) (slice_set done run.1 true) run.0 rehearsal.1 in
    let left = rehearsal.0.ready.left in
    record {
      left = λ event is_left. sum_by-cons (runs_at event) run runs ∙ elim (eqb_tells run.1 event) [
        | inl same ↦ omega (arith, ap one_or_none same.0, rest.others event (λ still. (left_before done run.1 event left still).0 (sym same.1)))
        | inr differs ↦ omega (arith, ap one_or_none differs.0, rest.left event (left_after done run.1 event is_left (λ same. differs.1 (sym same))))
      ];
      others = λ event not_left. sum_by-cons (runs_at event) run runs ∙ elim (eqb_tells run.1 event) [
        | inl same ↦ absurd (not_left (rw same.1 at left))
        | inr differs ↦ omega (arith, ap one_or_none differs.0, rest.others event (λ still. not_left (left_before done run.1 event left still).1))
      ];
    }

-- where the first answer is no overdue event, lack of memory is the first fault that stands
pub want_of_memory : {X : Type 0} (result : Result X RehearseFault) (table : Table) (done : List Bool) (now : ℤ) (answer : Next) → result ≡ Err Memory
    → ((bounds : List Difference) → IsExact bounds table → IsNext bounds done now answer) → ((event : ℕ) → answer ≢ Overdue event)
    → IfErr result (λ fault. (bounds : List Difference) → IsExact bounds table → IsRehearseFault bounds done now fault)
want_of_memory {X} result table done now answer is next none =
    let P : Result X RehearseFault → Type 0 = λ r. IfErr r (λ fault. (bounds : List Difference) → IsExact bounds table → IsRehearseFault bounds done now fault) in
    rw is (λ bounds exact. can_wait bounds done now answer exact.possible (next bounds exact) none)
