-- The first of the events that are ready is the one that comes next, and all may run until the same time.
use Rattle.std.{proofs.{Common.{rules, ◌≡◌, ℕ, ℤ, ◌+ℤ◌, ◌-ℤ◌, ◌≤ℤ◌, ◌<ℤ◌, suc, Bool, List, [], ◌∷◌, get_or, All, sym, ap, subst, ◌∙◌, arith, ⊎_elim}, lemmas.Int.{ints, clamps, by_lt_z}}, specs.{Int.int_min, List.flat_map}}
use Rattle.stn_net.{specs.{Difference.Difference, Schedule.IsSchedule, declared.windows.answers.Next.TheVariants.Run, Windows.Dispatch.{LeavesNoneBefore, IsReady, IsFirstReady}}, proofs.{OneAnswer.one_next, WindowEnds.lesser_schedule}}
use Rattle.stn_lift.specs.PlanSource.{PlanSource}
use Rattle.stn_records.specs.Content.{Content}
use Rattle.stn_site.specs.{Bounds.all_bounds, Report.done_events}
use Rattle.stn_questions.{specs.{declared.ready_event.ReadyEvent.ReadyEvent, Ready.{AreReadyEvents, AreReadyLines, IsReadyAnswer, IsReadyText, ready_line, BeginsWithNext}}, proofs.ReadyLists.HasTimes}
use Rattle.stn_laws.proofs.questions.OneReady.{stands, first_before}

module _ (bounds : List Difference) (done : List Bool) (now : ℤ) where
  -- an event that is ready is so later too, as long as in some schedule no event that is left comes before that
  ready_later : (event : ℕ) (time later : ℤ) (times : ℕ → ℤ) → IsReady bounds done event time → time ≤ℤ later
      → IsSchedule bounds times → LeavesNoneBefore done times later → IsReady bounds done event later
  ready_later event time later times ready after schedule none =
      let early = ready.possible in
      let waits = none event ready.left in
      record {
        left = ready.left;
        possible = (
          (λ y. int_min (times y) (early.0 y +ℤ (later -ℤ time))),
          lesser_schedule _ times _ _ schedule early.1 (omega (arith, ints)),
          omega (arith, ints, clamps),
          (λ other left. let one = none other left in let two = early.3 other left in omega (arith, ints, clamps)),
        );
      }

  -- no event that is ready is so after the last time of another
  none_after : (x y : ReadyEvent) → HasTimes bounds done now x → HasTimes bounds done now y → y.last ≤ℤ x.last
  none_after x y p q =
      let last = (q.1 y.last).1 (q.0, omega (arith, ints)) in
      let first = (p.1 x.first).1 (omega (arith, ints), p.0) in
      by_lt_z y.last x.first
      (λ (before : y.last <ℤ x.first). let order = p.0 in omega (arith, ints))
      (λ (after : x.first ≤ℤ y.last).
      let moved = ready_later _ _ _ _ first.1 after last.1.possible.1 last.1.possible.3 in
      ((p.1 y.last).0 (last.0, moved)).1)

  -- the list of the events that are ready, where this one comes next
  next_first : (time : ℤ) (event : ℕ) (ready : List ReadyEvent) → IsFirstReady bounds done now time event → AreReadyEvents bounds done now ready
      → (last : ℤ) × (others : List ReadyEvent) × (ready ≡ record { first = time; event = event; last = last } ∷ others) × All (λ one. one.last ≡ last) others
  next_first time event [] next are = search rules
  next_first time event (one ∷ others) next are =
      let p : HasTimes bounds done now one = are.times 0 one (omega arith) in
      let begins = (p.1 one.first).1 (omega (arith, ints), p.0) in
      let comes = next.first one.first one.event begins.0 begins.1 in
      let once = are.once event time next.later next.ready in
      let there = stands (one ∷ others) event (omega (arith, once)) in
      let seen = get_or (one ∷ others) there.0 one in
      let q : HasTimes bounds done now seen = are.times there.0 one there.1 in
      let within = (q.1 time).0 (next.later, subst (λ n. IsReady bounds done n time) (sym (there.2 one)) next.ready) in
      let before = first_before one others there.0 one are.order there.1 in
      let at : one.first ≡ time = omega (arith, ints) in
      let same : one.first ≡ seen.first = omega (arith, ints) in
      let is : one.event ≡ event = omega (arith, comes.1 (sym at), before.1 same, there.2 one) in (
        one.last,
        others,
        (λ i. record { first = at i; event = is i; last = one.last } ∷ others),
        (λ place d behind.
            let r : HasTimes bounds done now (get_or others place d) = are.times (suc place) d (omega arith) in
            let a = none_after one _ p r in
            let b = none_after _ one r p in
            omega (arith, ints)),
      )

-- the text begins with what comes next
pub begins_with_next : (source : PlanSource) (state : Content) (now time : ℤ) (event : ℕ) (text : List ℕ)
    → IsFirstReady (all_bounds source state) (done_events source state) now time event → IsReadyText source state now text → BeginsWithNext time event text
begins_with_next source state now time event text next p = ⊎_elim
    (λ says.
    let bounds = all_bounds source state in
    let done = done_events source state in
    let same = one_next bounds done now says.answer (Run time event) says.next next in
    let lines : AreReadyLines bounds done now text = subst (λ answer. IsReadyAnswer bounds done now answer text) same says.said in
    let list = next_first _ done now time event _ next lines.events in
    record { last = list.0; others = list.1; lines = lines.lines ∙ ap (flat_map ready_line) list.2; until = list.3 })
    (λ says. absurd (says.conflict (next.ready.possible.0, next.ready.possible.1)))
    p
