use Rattle.std.proofs.Common.{refl}
use Rattle.stn_effects.specs.Effects.{stopped, went}
use Rattle.stn_store.proofs.Lacks.{passed_on}
use Rattle.stn_logs.proofs.commands.update_log.Goals as goal

pub returns-in_err-ours : goal.returns-in_err-ours
returns-in_err-ours g c = rw (passed_on _ _ c.from_residual.ensures.1) (stopped _ c.in_err-ours.ensures.loaded refl)

pub returns-in_err-text : goal.returns-in_err-text
returns-in_err-text g c = rw (passed_on _ _ c.from_residual-in_err-text.ensures.1) (went _ _ c.in_ok-ours.ensures.loaded (stopped _ c.in_err-text.ensures refl))

pub returns-in_err-saved-in-Updated : goal.returns-in_err-saved-in-Updated
returns-in_err-saved-in-Updated g c =
    rw (passed_on _ _ c.from_residual-in_err-saved-in-Updated.ensures.1) (went _ _ c.in_ok-ours.ensures.loaded (went _ _ (rw c.in-Updated.is at c.in_ok-text.ensures)
    (stopped _ (c.in_err-saved-in-Updated.ensures.kept, c.in_err-saved-in-Updated.ensures.failed) refl)))

pub learn-requires : goal.learn-requires
learn-requires g c = c.in_ok-saved-in-Updated.ensures.spelled

pub returns-in_ok-saved-in-Updated : goal.returns-in_ok-saved-in-Updated
returns-in_ok-saved-in-Updated g c = went _ _ c.in_ok-ours.ensures.loaded (went _ _ (rw c.in-Updated.is at c.in_ok-text.ensures)
    (went tt _ (rw c.in_ok-ours.ensures.named at c.in_ok-saved-in-Updated.ensures.saved) (refl, refl)))

pub returns-in-Unchanged : goal.returns-in-Unchanged
returns-in-Unchanged g c = went _ _ c.in_ok-ours.ensures.loaded (went _ _ (rw c.in-Unchanged.is at c.in_ok-text.ensures) (refl, refl))
