use Rattle.std.proofs.{Common.{◌≡◌, ◌≤◌, ◌∙◌, length, map, Ok, sym, ap, arith, rules}, lemmas.{List.length-map, Result.err_from_is_err_and}}
use Rattle.stn_net.specs.Event.{most_steps}
use Rattle.stn_pddl.specs.{Domains.domain_of}
use Rattle.stn_lift.{specs.{Plan.Steps.plan_of, Activities.activities, PlanSource.{files, IsBase}, Timelines.{IsWholeTimeline, numbered_bounds}, Views.numbers_of}, proofs.{LiftedBase.{few_found, is_whole, base_lifted}, Steps.cause_of, Texts.texts_lifted, base.lift.{Given.Over, Goals.{In_ok-timeline, In_ok-from_slice-2}}}}
use Rattle.stn_lift.proofs.base.lift.Goals as goal

pub returns-in_err-timeline-clause-cause : goal.returns-in_err-timeline-clause-cause
returns-in_err-timeline-clause-cause g c = search (rules, err_from_is_err_and, cause_of)

-- the steps that were found, and how few they are
found : (g : Over) (c : In_ok-timeline g)
    → (activities c.args.domain.now.actions 0 c.args.plan.now.steps ≡ Ok c.in_ok-timeline.ensures.made.0) × (length c.in_ok-timeline.ensures.made.0 ≤ most_steps)
found g c =
    let made = c.in_ok-timeline.ensures.made in
    let actions = c.args.domain.now.actions in
    let planned = c.args.plan.now.steps in
    let is : activities actions 0 planned ≡ Ok made.0 = rw c.steps.ensures.steps at made.1 in
    search (rules, few_found, length-map)

whole : (g : Over) (c : In_ok-timeline g)
    → IsWholeTimeline c.in_ok-timeline.timeline.durations.items c.in_ok-timeline.timeline.times.items (map numbers_of c.in_ok-timeline.timeline.footprints.items)
whole g c =
    let made = c.in_ok-timeline.ensures.made in
    is_whole made.0 c.in_ok-timeline.timeline.durations.items c.in_ok-timeline.timeline.times.items (map numbers_of c.in_ok-timeline.timeline.footprints.items) made.2 (found g c).1

pub bounds-requires : goal.bounds-requires
bounds-requires g c = whole g (goal.at.bounds-requires g c).In_ok-timeline

pub overflow_cast-result : goal.overflow_cast-result
overflow_cast-result g c = omega (arith, (whole g (goal.at.overflow_cast-result g c).In_ok-timeline).few)

-- they make a base of the two texts
based : (g : Over) (c : In_ok-from_slice-2 g)
    → IsBase (files c.in_ok-from_slice.field-0.items c.in_ok-from_slice-2.field-0.items) (length c.in_ok-timeline.timeline.durations.items)
    (numbered_bounds c.in_ok-timeline.timeline.durations.items c.in_ok-timeline.timeline.times.items (map numbers_of c.in_ok-timeline.timeline.footprints.items)) c.in_ok-timeline.timeline.times.items
based g c =
    let made = c.in_ok-timeline.ensures.made in
    let timeline = c.in_ok-timeline.timeline in
    let domain = c.in_ok-from_slice.field-0.items in
    let plan = c.in_ok-from_slice-2.field-0.items in
    let actions = c.args.domain.now.actions in
    let planned = c.args.plan.now.steps in
    let (is, small) = found g (goal.at.In_ok-from_slice-2 g c).In_ok-timeline in
    let domain_is : domain_of domain ≡ Ok actions = rw c.in_ok-from_slice.ensures.items c.text.ensures.given in
    let plan_is : plan_of plan ≡ Ok planned = search rules in
    search (rules, base_lifted)

pub invariant_of-result : goal.invariant_of-result
invariant_of-result g c =
    let durations = c.in_ok-timeline.timeline.durations in
    let counted : c.len.result ≡ length durations.items = omega (arith, c.len.ensures, durations.ok.0) in
    rw (counted, c.in_ok-bounds.ensures) (based g (goal.at.invariant_of-result g c).In_ok-from_slice-2)

pub returns : goal.returns
returns g c =
    let made = c.in_ok-timeline.ensures.made in
    let actions = c.args.domain.now.actions in
    let (is, small) = found g (goal.at.returns g c).In_ok-timeline in
    let base = based g (goal.at.returns g c).In_ok-from_slice-2 in
    let given_domain : domain_of c.args.domain.now.text ≡ Ok actions = rw (← c.text.ensures.text) c.text.ensures.given in
    record {
      made = search rules;
      given = search rules;
      cause = tt;
      steps = is ∙ ap Ok (sym (texts_lifted c.args.domain.now.text c.args.plan.now.text actions c.args.plan.now.steps made.0 given_domain c.steps.ensures.given is));
      possible = base.sound.possible;
      ordered = base.sound.ordered;
      sound = base.sound;
    }
