use Rattle.std.proofs.Common.{◌∙◌, ◌++◌, ◌∷◌, map, ap, []}
use Rattle.stn_pddl.specs.Views.{action_schema}
use Rattle.stn_lift.{specs.{Plan.Views.{planned_step, word_of}, Footprints.{start_footprint, end_footprint}, Numbering.IsNumbered, Activities.activity, Views.numbers_of}, proofs.TimelineFacts.timeline_pushed}
use Rattle.stn_lift.proofs.timeline.Timeline.push.Goals as goal

pub returns : goal.returns
unfolding action_schema
returns g c = λ steps was.
    let step = activity (planned_step c.args.step.now) (action_schema c.args.action.now) in
    let args = map word_of c.args.step.now.args.items in
    let start : IsNumbered c.footprint.new.atoms (numbers_of c.in_ok-start.start) (start_footprint (action_schema c.args.action.now) args) =
    rw (c.deref.ensures.value, c.deref-2.ensures.value, c.deref-3.ensures.value, c.deref-4.ensures.value, c.deref-5.ensures.value) at c.in_ok-start.ensures.numbered in
    let end : IsNumbered c.footprint-2.new.atoms (numbers_of c.in_ok-end.end) (end_footprint (action_schema c.args.action.now) args) =
    rw (c.deref-6.ensures.value, c.deref-7.ensures.value, c.deref-8.ensures.value, c.deref-9.ensures.value, c.deref-10.ensures.value) at c.in_ok-end.ensures.numbered in
    timeline_pushed step
    c.in_ok-start.ensures.kept c.in_ok-end.ensures.kept c.in_ok-end.ensures.unambiguous start end
    (c.in_ok-append_footprint-2.ensures.durations ∙ c.in_ok-append_footprint.ensures.durations ∙ c.in_ok-append_times.ensures.durations)
    (c.in_ok-append_footprint-2.ensures.times ∙ c.in_ok-append_footprint.ensures.times ∙ c.in_ok-append_times.ensures.times)
    (c.in_ok-append_footprint-2.ensures.footprints
    ∙ ap (λ footprints. footprints ++ numbers_of c.in_ok-end.end ∷ [])
    (c.in_ok-append_footprint.ensures.footprints ∙ ap (λ footprints. map numbers_of footprints ++ numbers_of c.in_ok-start.start ∷ []) c.in_ok-append_times.ensures.footprints))
    was
