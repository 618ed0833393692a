use Rattle.std.{proofs.Common.{rules, ◌≡◌, ℤ, Vec, Result, true, inl, refl, sym, ap, ◌∙◌, ℕ, subst}, specs.Prelude.Some}
use Rattle.stn_refusal.specs.declared.failure.Failure.{Failure}
use Rattle.stn_lift.specs.PlanSource.{steps_of}
use Rattle.stn_site.specs.Held.{Held}
use Rattle.stn_questions.specs.declared.words.Outlook.{Outlook}
use Rattle.stn_command.{specs.{Dispatch.{Choice, done_or_not_chosen}, Query.{Foresees, Says, has_steps, seen_choice, foresee}}, proofs.Chosen.chosen_own}
use Rattle.stn_command.proofs.queries.foresee.Goals as goal

foreseen : {A : Type 0} (held : Held) (outlook : Outlook) (now : ℤ) (choice : Choice) (result : Result (Vec ℕ A) Failure) → has_steps choice (steps_of held.source) ≡ true
    → Foresees outlook now (done_or_not_chosen choice held.source held.state) held result → Says (foresee outlook now choice) held result
foreseen held outlook now choice result has h6 = search rules

pub returns-then-has_steps : goal.returns-then-has_steps
returns-then-has_steps g c =
    let plan = c.args.plan.now in
    foreseen plan c.args.outlook c.args.now (seen_choice c.args.choice.now) c.of_own.result
    (ap (has_steps (seen_choice c.args.choice.now)) (sym (c.steps.ensures.value ∙ ap steps_of c.base.ensures)) ∙ sym c.has_steps.ensures ∙ c.if-has_steps.true)
    (subst (λ done. Foresees c.args.outlook c.args.now done plan c.of_own.result)
    (chosen_own c.args.choice.now c.unwrap_or-steps.result _ c.all_steps.result plan.source plan.state c.unwrap_or-steps.ensures refl c.all_steps.ensures.first c.all_steps.ensures.last) c.of_own.ensures)

pub returns-else-has_steps : goal.returns-else-has_steps
returns-else-has_steps g c =
    inl (inl (ap (has_steps (seen_choice c.args.choice.now)) (sym (c.steps.ensures.value ∙ ap steps_of c.base.ensures)) ∙ sym c.has_steps.ensures ∙ c.if-has_steps.false, ap Some c.from.ensures))
