use Rattle.std.proofs.Common.{◌≡◌, ◌∙◌, Err, refl, sym, ap, inl}
use Rattle.stn_effects.specs.Effects.{stopped, went}
use Rattle.stn_lift.specs.PlanSource.{bare, files, plan_source}
use Rattle.stn_logs.specs.Commands.{nameless}
use Rattle.stn_store.proofs.Lacks.{passed_on}
use Rattle.stn_logs.proofs.commands.text_of_file.Goals as goal

pub returns-in-Files : goal.returns-in-Files
returns-in-Files g c =
    let is : c.args.ours.now.source ≡ files c.in-Files.field-0.items c.in-Files.field-1.items = sym c.base.ensures ∙ sym c.source.ensures.source ∙ ap plan_source c.in-Files.is in
    stopped _ (refl, inl (ap nameless is ∙ ap Err (sym c.no_such_word.ensures))) refl

pub returns-in_err-text-in-Bare : goal.returns-in_err-text-in-Bare
returns-in_err-text-in-Bare g c =
    let is : c.args.ours.now.source ≡ bare c.in-Bare.field-0 = sym c.base.ensures ∙ sym c.source.ensures.source ∙ ap plan_source c.in-Bare.is in
    rw (passed_on _ _ c.from_residual.ensures.1) (went tt _ (refl, ap nameless is) (stopped _ (refl, c.in_err-text-in-Bare.ensures.failed) refl))

pub returns-in_ok-text-in-Bare : goal.returns-in_ok-text-in-Bare
returns-in_ok-text-in-Bare g c =
    let is : c.args.ours.now.source ≡ bare c.in-Bare.field-0 = sym c.base.ensures ∙ sym c.source.ensures.source ∙ ap plan_source c.in-Bare.is in
    went tt _ (refl, ap nameless is) (went c.in_ok-text-in-Bare.text.items _ (refl, c.in_ok-text-in-Bare.ensures.spelled) (refl, refl))
