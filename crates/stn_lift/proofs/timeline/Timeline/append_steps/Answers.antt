use Rattle.std.proofs.{Common.{rules, ◌≡◌, ◌+◌, ◌<◌, ◌≤◌, ◌++◌, ◌∷◌, ◌∙◌, map, length, get_or, drop, ap, [], arith}, lemmas.{List.{get_or-map, length-map, drop_all}, Result.err_from_is_err_and, Grind.elements}}
use Rattle.stn_pddl.specs.Views.{action_schema}
use Rattle.stn_lift.{specs.{Plan.Views.planned_step, Activities.{activity, activities}}, proofs.TimelineFacts.{behind, behind_all, fails_at, found_at, all_lifted}}
use Rattle.stn_lift.proofs.timeline.Timeline.append_steps.Goals as goal

pub returns-in_err-action : goal.returns-in_err-action
returns-in_err-action g c =
    let all = map planned_step c.args.steps.now in
    let step = planned_step c.step-item.result in
    let place = c.loop-step.step-index in
    let mapped : place < length all = rw length-map c.loop-step-test.true in
    let here : step ≡ get_or all place step = search (rules, get_or-map) in
    let returned = err_from_is_err_and c.from_residual.result c.from_residual.ensures.1 in
    search (rules, fails_at)

pub loop-step-preserved : goal.loop-step-preserved
loop-step-preserved g c =
    let all = map planned_step c.args.steps.now in
    let step = planned_step c.step-item.result in
    let place = c.loop-step.step-index in
    let one = activity step (action_schema c.in_ok-action.action.now) in
    let mapped : place < length all = rw length-map c.loop-step-test.true in
    let here : step ≡ get_or all place step = search (rules, get_or-map) in
    record {
      number = ap (λ n. n + 1) c.loop-step.invariant.number;
      found = c.loop-step.invariant.found ++ one ∷ [];
      whole = found_at c.args.domain.now.actions all place c.loop-step.invariant.found step mapped here c.loop-step.invariant.whole
          (ap (λ n. n + 1) c.loop-step.invariant.number) c.in_ok-action.ensures.given;
      timeline = c.in_ok-push.ensures c.loop-step.invariant.found c.loop-step.invariant.timeline;
    }

pub returns : goal.returns
returns g c =
    let all = map planned_step c.args.steps.now in
    let past : length all ≤ c.loop-step.step-index = rw length-map c.loop-step-test.false in
    let none : drop c.loop-step.step-index all ≡ [] = drop_all c.loop-step.step-index all past in
    record {
      made = (
        c.loop-step.invariant.found,
        c.loop-step.invariant.whole ∙ ap (λ l. behind c.args.domain.now.actions c.loop-step.invariant.found (activities c.args.domain.now.actions c.loop-step.step-index l)) none
            ∙ behind_all c.args.domain.now.actions c.loop-step.step-index c.loop-step.invariant.found,
        all_lifted c.loop-step.invariant.timeline,
      );
      fault = tt;
    }

pub push-requires-clause-timely : goal.push-requires-clause-timely
push-requires-clause-timely g c = grind (arith, elements)
