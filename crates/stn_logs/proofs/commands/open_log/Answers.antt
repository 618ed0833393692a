use Rattle.std.proofs.Common.{refl, inl, inr, ⊎_elim}
use Rattle.stn_store.proofs.Lacks.{passed_on}
use Rattle.stn_logs.proofs.commands.open_log.Goals as goal

pub returns-in_err-held : goal.returns-in_err-held
returns-in_err-held g c = rw (passed_on _ _ c.from_residual.ensures.1) (record { named = tt; loaded = (refl, ⊎_elim (λ missing. inl (inl missing)) inr c.in_err-held.ensures.failed) })

pub returns-in_err-plan : goal.returns-in_err-plan
returns-in_err-plan g c = rw (passed_on _ _ c.from_residual-in_err-plan.ensures.1) (record { named = tt; loaded = (refl, rw c.in_ok-held.ensures.named at c.in_err-plan.ensures.failed) })

pub returns : goal.returns
returns g c = record { named = c.in_ok-held.ensures.named; loaded = (refl, rw c.in_ok-held.ensures.named at c.in_ok-plan.ensures.opened) }
