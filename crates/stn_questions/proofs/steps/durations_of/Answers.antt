use Rattle.std.proofs.{Common.{rules, drop, sym, ap, subst, ◌∙◌}, lemmas.List.take_rest}
use Rattle.stn_lift.{specs.PlanSource.{base_bounds, events_of, IsSoundSource}, proofs.PlanHorizon.horizon_within}
use Rattle.stn_questions.{specs.Durations.AreDurations, proofs.Lasting.durations_last}
use Rattle.stn_questions.proofs.steps.durations_of.Goals as goal

pub slice_bounds-result-count : goal.slice_bounds-result-count
slice_bounds-result-count g c = search (rules, horizon_within)

pub slice_bounds-result-start : goal.slice_bounds-result-start
slice_bounds-result-start g c = search (rules, horizon_within)

pub returns : goal.returns
returns g c = λ domain plan e.
    let first = c.from-first.result in
    let bounds = c.bounds.result.now in
    let is = take_rest bounds first ∙ ap (drop first) (c.bounds.ensures.value ∙ ap base_bounds e) in
    subst (AreDurations domain plan) (sym is)
    (durations_last domain plan first (c.from-first.ensures ∙ c.events.ensures.value ∙ ap events_of e) (subst IsSoundSource e c.bounds.ensures.sound))
