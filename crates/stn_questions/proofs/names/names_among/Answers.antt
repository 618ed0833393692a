use Rattle.std.proofs.{Common.{◌≡◌, ℕ, ◌+◌, ◌<◌, List, [], ◌∷◌, ◌++◌, length, map, take, get_or, arith}, lemmas.{Grind.common_steps, Result.err_from_is_err_and}}
use Rattle.stn_lift.specs.Plan.{Steps.PlannedStep, Views.planned_step}
use Rattle.stn_questions.specs.Steps.{step_name}
use Rattle.stn_questions.proofs.names.names_among.Goals as goal

named_more : {X Y : Type 0} (view : X → PlannedStep) (text : Y → List ℕ) (xs : List X) (place : ℕ) (x : X) (old new : List Y) (y : Y) → place < length xs → x ≡ get_or xs place x
    → map text old ≡ map step_name (map view (take place xs)) → new ≡ old ++ y ∷ [] → text y ≡ step_name (view x) → map text new ≡ map step_name (map view (take (place + 1) xs))
named_more view text xs place x old new y within is before pushed named = grind (arith, common_steps)

pub loop-step-preserved : goal.loop-step-preserved
loop-step-preserved g c =
    let step = c.step-item.result in
    named_more planned_step (λ name. name.items) c.args.steps.now c.loop-step.step-index step c.loop-step.names.items c.push.new.self.items c.append_words.new.out c.loop-step-test.true c.step-item.is
    c.loop-step.invariant c.in_ok-push.ensures.items
    (cc (rw c.new-name.ensures.items at c.in_ok-append_words.ensures))

pub returns-in_err-append_words : goal.returns-in_err-append_words
returns-in_err-append_words g c = let p = err_from_is_err_and c.from_residual.result c.from_residual.ensures.1 in rw (p.1) tt
