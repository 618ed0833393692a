use Rattle.std.proofs.{Common.{◌≡◌, ◌+◌, ◌<ℤ◌, ◌≤ℤ◌, length, sym, ap, subst, ◌∙◌, arith}, lemmas.{Int.ints, Result.IfOk-weaker}}
use Rattle.stn_net.{specs.{Schedule.times_of, Windows.{Dispatch.CanWaitUntil, Leading.{IsLeastLatest, AreReadyAt}, Soonest.{AreEarliest, AreLatest, AreSoonest}}}, proofs.Ends.none_past_waits}
use Rattle.stn_lift.specs.PlanSource.{base_bounds, events_of, IsSoundSource}
use Rattle.stn_site.specs.Bounds.{all_bounds}
use Rattle.stn_questions.{specs.Ready.AreReadyEvents, proofs.Foretold.{all_in, all_named, found_earliest, found_latest, found_soonest, none_ready, none_after_last, there_unless}}
use Rattle.stn_questions.proofs.ready.ready_events.Goals as goal

pub returns-then-lt : goal.returns-then-lt
returns-then-lt g c =
    let source = c.args.plan.now.source in
    let state = c.args.plan.now.state in
    let own = c.bounds-bounds.ensures.value ∙ ap base_bounds c.base-2.ensures in
    let events = c.events-events.ensures.value ∙ ap events_of c.base.ensures in
    let all = all_in source state c.bounds-bounds.result.now c.deref.result.now c.in_ok-live.live.items own c.deref.ensures.value c.in_ok-live.ensures.value in
    let last : (length c.unwrap-first_times.result.1.items ≡ events_of source + 1) × AreLatest (all_bounds source state) (events_of source) (times_of c.unwrap-first_times.result.1.items) =
    found_latest _ _ _ _ c.in_ok-found.found c.unwrap-first_times.result all events c.unwrap-first_times.ensures c.in_ok-found.ensures.latest in
    let least : IsLeastLatest (times_of c.unwrap-first_times.result.1.items) c.args.done.now c.in-Some.last = rw c.deref-2.ensures.value at c.in-Some.ensures in
    let past : c.in-Some.last <ℤ c.args.now = (let lt = sym c.lt.ensures ∙ c.if-lt.true in grind (arith, ints)) in
    subst (AreReadyEvents (all_bounds source state) c.args.done.now c.args.now) (sym c.new-then-lt.ensures.items)
    (none_ready (all_bounds source state) c.args.done.now c.args.now
    (none_after_last (all_bounds source state) (events_of source) c.args.done.now (times_of c.unwrap-first_times.result.1.items) c.args.now c.in-Some.last last.1 c.requires.one_each least past))

pub unwrap-times-requires : goal.unwrap-times-requires
unwrap-times-requires g c =
    let source = c.args.plan.now.source in
    let state = c.args.plan.now.state in
    let own = c.bounds-bounds.ensures.value ∙ ap base_bounds c.base-2.ensures in
    let events = c.events-events.ensures.value ∙ ap events_of c.base.ensures in
    let all = all_in source state c.bounds-bounds.result.now c.deref.result.now c.in_ok-live.live.items own c.deref.ensures.value c.in_ok-live.ensures.value in
    let whole = all_in source state c.bounds-bounds.result.now c.deref-3.result.now c.in_ok-live.live.items own c.deref-3.ensures.value c.in_ok-live.ensures.value in
    let last : (length c.unwrap-first_times.result.1.items ≡ events_of source + 1) × AreLatest (all_bounds source state) (events_of source) (times_of c.unwrap-first_times.result.1.items) =
    found_latest _ _ _ _ c.in_ok-found.found c.unwrap-first_times.result all events c.unwrap-first_times.ensures c.in_ok-found.ensures.latest in
    let least : IsLeastLatest (times_of c.unwrap-first_times.result.1.items) c.args.done.now c.in-Some.last = rw c.deref-2.ensures.value at c.in-Some.ensures in
    let named = all_named source state (subst IsSoundSource c.base-2.ensures c.bounds-bounds.ensures.sound) c.in_ok-live.ensures.named in
    let waits = none_past_waits (all_bounds source state) (events_of source) (times_of c.unwrap-first_times.result.1.items) c.args.done.now last.1 c.requires.one_each c.in-Some.last named least.least in
    there_unless c.in_ok-soonest.field-0 _ _ c.in_ok-soonest.ensures (λ none. none (subst (λ bounds. CanWaitUntil bounds c.args.done.now c.in-Some.last) (sym whole) waits))

pub returns : goal.returns
returns g c =
    let source = c.args.plan.now.source in
    let state = c.args.plan.now.state in
    let own = c.bounds-bounds.ensures.value ∙ ap base_bounds c.base-2.ensures in
    let events = c.events-events.ensures.value ∙ ap events_of c.base.ensures in
    let front = all_in source state c.bounds-bounds.result.now c.deref.result.now c.in_ok-live.live.items own c.deref.ensures.value c.in_ok-live.ensures.value in
    let whole = all_in source state c.bounds-bounds.result.now c.deref-3.result.now c.in_ok-live.live.items own c.deref-3.ensures.value c.in_ok-live.ensures.value in
    let first : (length c.unwrap-first_times.result.0.items ≡ events_of source + 1) × AreEarliest (all_bounds source state) (events_of source) (times_of c.unwrap-first_times.result.0.items) =
    found_earliest _ _ _ _ c.in_ok-found.found c.unwrap-first_times.result front events c.unwrap-first_times.ensures c.in_ok-found.ensures.earliest in
    let last : (length c.unwrap-first_times.result.1.items ≡ events_of source + 1) × AreLatest (all_bounds source state) (events_of source) (times_of c.unwrap-first_times.result.1.items) =
    found_latest _ _ _ _ c.in_ok-found.found c.unwrap-first_times.result front events c.unwrap-first_times.ensures c.in_ok-found.ensures.latest in
    let soon : (length c.unwrap-times.result.items ≡ events_of source + 1) × AreSoonest (all_bounds source state) c.args.done.now c.in-Some.last (times_of c.unwrap-times.result.items) =
    found_soonest _ _ _ _ c.in_ok-soonest.field-0 c.unwrap-times.result whole events c.unwrap-times.ensures c.args.done.now c.in-Some.last c.in_ok-soonest.ensures in
    let least : IsLeastLatest (times_of c.unwrap-first_times.result.1.items) c.args.done.now c.in-Some.last = rw c.deref-2.ensures.value at c.in-Some.ensures in
    let named = all_named source state (subst IsSoundSource c.base-2.ensures c.bounds-bounds.ensures.sound) c.in_ok-live.ensures.named in
    let at : AreReadyAt (all_bounds source state) (events_of source) c.args.done.now (times_of c.unwrap-first_times.result.0.items) (times_of c.unwrap-first_times.result.1.items) (times_of c.unwrap-times.result.items) c.in-Some.last =
    record { named = named; one_each = c.requires.one_each; earliest = first.1; latest = last.1; least = least; soonest = soon.1 } in
    let in_time : c.args.now ≤ℤ c.in-Some.last = (let lt = sym c.lt.ensures ∙ c.if-lt.false in grind (arith, ints)) in
    IfOk-weaker c.ready_until.result _ _ (λ ready told.
    told (all_bounds source state) (events_of source) (times_of c.unwrap-first_times.result.1.items) (rw (c.deref-4.ensures.value, c.deref-5.ensures.value) at) in_time) c.ready_until.ensures
