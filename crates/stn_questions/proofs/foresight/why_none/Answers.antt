use Rattle.std.proofs.{Common.{rules, ◌≡◌, ◌+◌, ◌++◌, length, ap, ◌∙◌, arith}, lemmas.Grind.elements}
use Rattle.stn_net.specs.{Schedule.times_of, Windows.{Soonest.AreLatest}}
use Rattle.stn_lift.specs.PlanSource.{events_of, IsSoundSource}
use Rattle.stn_site.specs.Bounds.{all_bounds}
use Rattle.stn_questions.proofs.Foretold.{all_named}
use Rattle.stn_questions.proofs.foresight.why_none.Goals as goal

pub returns-in-Some : goal.returns-in-Some
returns-in-Some g c =
    let source = c.args.plan.now.source in
    let state = c.args.plan.now.state in
    let all = all_bounds source state in
    let bounds : c.bounds.result.now ++ c.deref.result.now ≡ all = search rules
    in
    let events : c.events.result ≡ events_of source = c.events.ensures.value ∙ ap events_of c.base-base.ensures in
    let found : (length c.in-Some.times.items ≡ events_of source + 1) × AreLatest all (events_of source) (times_of c.in-Some.times.items) = search rules
    in
    let (long, latest) = rw (← c.deref-in-Some.ensures.value) at found in
    let sound : IsSoundSource source = search rules in
    let told = c.overdue.ensures all (events_of source) long (all_named source state sound c.in_ok-live.ensures.named) latest in
    let (times, schedule, at) = latest.taken 0 (omega arith) in
    search rules

pub unwrap-event-requires : goal.unwrap-event-requires
unwrap-event-requires g c = grind (arith, elements)
