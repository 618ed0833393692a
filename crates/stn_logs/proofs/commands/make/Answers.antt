use Rattle.std.proofs.Common.{refl, ap, inl, inr, ⊎_elim}
use Rattle.stn_effects.specs.Effects.{failing, stopped, went}
use Rattle.stn_lift.specs.{Failures.base_failure, PlanSource.plan_source}
use Rattle.stn_store.proofs.Lacks.{lack_of_memory, passed_on}
use Rattle.stn_logs.proofs.Made.{saved_as}
use Rattle.stn_logs.proofs.commands.make.Goals as goal

pub returns-in_err-plan : goal.returns-in_err-plan
returns-in_err-plan g c = rw (passed_on _ _ c.from_residual.ensures.1) (stopped _ (refl, ⊎_elim (λ memory. inr (lack_of_memory _ _ memory)) inl c.in_err-plan.ensures.refused) refl)

pub returns : goal.returns
returns g c =
    let is = c.in_ok-plan.ensures in
    went (plan_source c.args.source.now) _ (refl, ap (failing base_failure) is.accepted) (saved_as _ is.source is.empty c.save_made-text.ensures)
