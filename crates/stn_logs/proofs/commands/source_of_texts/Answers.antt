use Rattle.std.proofs.Common.{refl}
use Rattle.stn_effects.specs.Effects.{stopped, went}
use Rattle.stn_store.proofs.Lacks.{passed_on}
use Rattle.stn_logs.proofs.commands.source_of_texts.Goals as goal

pub returns-in_err-domain : goal.returns-in_err-domain
returns-in_err-domain g c = rw (passed_on _ _ c.from_residual.ensures.1) (stopped _ (refl, c.in_err-domain.ensures.failed) refl)

pub returns-in_err-plan : goal.returns-in_err-plan
returns-in_err-plan g c = rw (passed_on _ _ c.from_residual-in_err-plan.ensures.1) (went _ _ (refl, c.in_ok-domain.ensures.spelled) (stopped _ (refl, c.in_err-plan.ensures.failed) refl))

pub returns : goal.returns
returns g c = went _ _ (refl, c.in_ok-domain.ensures.spelled) (went _ _ (refl, c.in_ok-plan.ensures.spelled) (refl, refl))
