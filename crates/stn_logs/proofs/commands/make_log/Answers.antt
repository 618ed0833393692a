use Rattle.std.proofs.Common.{refl, sym, inl, inr, ⊎_elim}
use Rattle.stn_effects.specs.Effects.{stopped, went}
use Rattle.stn_store.proofs.Lacks.{lack_of_memory, passed_on}
use Rattle.stn_logs.proofs.{Made.saved_as, Refused.{unread, read_so}}
use Rattle.stn_logs.proofs.commands.make_log.Goals as goal

pub returns-in_err-find_free-in-Bare : goal.returns-in_err-find_free-in-Bare
returns-in_err-find_free-in-Bare g c = rw (passed_on _ _ c.from_residual.ensures.1, c.in-Bare.is) (stopped _ c.in_err-find_free-in-Bare.ensures refl)

pub returns-in_ok-find_free-in-Bare : goal.returns-in_ok-find_free-in-Bare
returns-in_ok-find_free-in-Bare g c = rw c.in-Bare.is (went tt _ c.in_ok-find_free-in-Bare.ensures c.make.ensures)

pub returns-in_err-find_free-in-Init : goal.returns-in_err-find_free-in-Init
returns-in_err-find_free-in-Init g c = rw (passed_on _ _ c.from_residual-in_err-find_free-in-Init.ensures.1, c.in-Init.is) (stopped _ c.in_err-find_free-in-Init.ensures refl)

pub returns-in_err-source-in-Init : goal.returns-in_err-source-in-Init
returns-in_err-source-in-Init g c = rw (passed_on _ _ c.from_residual-in_err-source-in-Init.ensures.1, c.in-Init.is) (went tt _ c.in_ok-find_free-in-Init.ensures (stopped _ c.in_err-source-in-Init.ensures refl))

pub returns-in_ok-source-in-Init : goal.returns-in_ok-source-in-Init
returns-in_ok-source-in-Init g c =
    rw c.in-Init.is (went tt _ c.in_ok-find_free-in-Init.ensures (went _ _ c.in_ok-source-in-Init.ensures c.make-in-Init.ensures))

pub returns-in_err-tolerance-in-Loosen : goal.returns-in_err-tolerance-in-Loosen
returns-in_err-tolerance-in-Loosen g c = rw (passed_on _ _ c.from_residual-in_err-tolerance-in-Loosen.ensures.1, c.in-Loosen.is) (stopped _ (unread _ (inr (sym c.in_err-tolerance-in-Loosen.ensures))) refl)

pub returns-in_err-find_free-in-Loosen : goal.returns-in_err-find_free-in-Loosen
returns-in_err-find_free-in-Loosen g c = rw (passed_on _ _ c.from_residual-in_err-find_free-in-Loosen.ensures.1, c.in-Loosen.is) (went _ _ (refl, read_so (sym c.in_ok-tolerance-in-Loosen.ensures)) (stopped _ c.in_err-find_free-in-Loosen.ensures refl))

pub returns-in_err-source-in-Loosen : goal.returns-in_err-source-in-Loosen
returns-in_err-source-in-Loosen g c =
    rw (passed_on _ _ c.from_residual-in_err-source-in-Loosen.ensures.1, c.in-Loosen.is) (went _ _ (refl, read_so (sym c.in_ok-tolerance-in-Loosen.ensures)) (went tt _ c.in_ok-find_free-in-Loosen.ensures
    (stopped _ c.in_err-source-in-Loosen.ensures refl)))

pub returns-in_err-plan-in-Loosen : goal.returns-in_err-plan-in-Loosen
returns-in_err-plan-in-Loosen g c =
    rw (passed_on _ _ c.from_residual-in_err-plan-in-Loosen.ensures.1, c.in-Loosen.is) (went _ _ (refl, read_so (sym c.in_ok-tolerance-in-Loosen.ensures)) (went tt _ c.in_ok-find_free-in-Loosen.ensures
    (went _ _ c.in_ok-source-in-Loosen.ensures
    (stopped _ (refl, ⊎_elim (λ memory. inr (lack_of_memory _ _ memory)) inl c.in_err-plan-in-Loosen.ensures.refused) refl))))

pub returns-in_ok-plan-in-Loosen : goal.returns-in_ok-plan-in-Loosen
returns-in_ok-plan-in-Loosen g c =
    let is = c.in_ok-plan-in-Loosen.ensures in
    rw c.in-Loosen.is (went _ _ (refl, read_so (sym c.in_ok-tolerance-in-Loosen.ensures)) (went tt _ c.in_ok-find_free-in-Loosen.ensures
    (went _ _ c.in_ok-source-in-Loosen.ensures
    (went c.in_ok-plan-in-Loosen.plan.state _ (refl, is.loosened, is.accepted) (saved_as _ is.source refl c.save_made.ensures)))))
