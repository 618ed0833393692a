use Rattle.std.{proofs.{Common.{◌≡◌, ◌∙◌, ◌++◌, ◌∷◌, [], ap, sym, map, Some, None, Ok, rules}, lemmas.List.{append-nil, map-append}}, specs.Option.option_map}
use Rattle.stn_lift.{specs.Plan.Views.planned_step, proofs.StepFacts.steps_more}
use Rattle.stn_lift.proofs.plan.read_steps.Goals as goal

pub loop-number-preserved-in-Continue-branch-3 : goal.loop-number-preserved-in-Continue-branch-3
loop-number-preserved-in-Continue-branch-3 g c =
    let steps = c.loop-number.steps.items in
    let pushed : c.push.new.self.items ≡ steps ++ c.in-Some-2.step ∷ [] = search rules in
    steps_more (map planned_step steps) _ c.loop-number.lines c.next_line.new.self (c.in-Some.number, c.in-Some.line.now) (Some (planned_step c.in-Some-2.step)) c.in-Some.ensures
    (c.in_ok-step.ensures ∙ ap (λ found. Ok (option_map planned_step found)) c.in-Some-2.is) (ap (map planned_step) pushed ∙ map-append planned_step steps _)
    ∙ c.loop-number.invariant

pub loop-number-preserved : goal.loop-number-preserved
loop-number-preserved g c =
    let steps = map planned_step c.loop-number.steps.items in
    steps_more steps steps c.loop-number.lines c.next_line.new.self (c.in-Some.number, c.in-Some.line.now) None c.in-Some.ensures
    (c.in_ok-step.ensures ∙ ap (λ found. Ok (option_map planned_step found)) c.in_default-2.is) (sym (append-nil steps)) ∙ c.loop-number.invariant
