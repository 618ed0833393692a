use Rattle.std.proofs.Common.{Some, None, refl, ap, inl, inr, ⊎_elim, ◌∙◌}
use Rattle.stn_site.specs.Failures.{replica_failure}
use Rattle.stn_command.specs.Guarding.{guard_text}
use Rattle.stn_logs.specs.Commands.{updated, unchanged, guarded, conflict}
use Rattle.stn_store.proofs.Lacks.{passed_on}
use Rattle.stn_logs.proofs.changes.guard_plan.Goals as goal

pub returns-in_err-ids : goal.returns-in_err-ids
returns-in_err-ids g c = rw (passed_on _ _ c.from_residual.ensures.1) (⊎_elim (λ memory. inl (ap replica_failure memory)) (λ refusal. inr (_, refusal, refl)) c.in_err-ids.ensures.fault)

pub returns-in_err-guard_lines-in-Some : goal.returns-in_err-guard_lines-in-Some
returns-in_err-guard_lines-in-Some g c = rw (passed_on _ _ c.from_residual-in_err-guard_lines-in-Some.ensures.1) (inl refl)

pub returns-in_err-guard_lines-in-None : goal.returns-in_err-guard_lines-in-None
returns-in_err-guard_lines-in-None g c = rw (passed_on _ _ c.from_residual-in_err-guard_lines-in-None.ensures.1) (inl refl)

pub returns-in_ok-guard_lines-in-Some : goal.returns-in_ok-guard_lines-in-Some
returns-in_ok-guard_lines-in-Some g c =
    let new = c.add_guard.new.plan in
    let adds = rw c.in-Some.is at c.in_ok-ids.ensures.adds in (
      guarded c.in-Some.ids.items new adds
          (ap (updated new) (c.in_ok-guard_lines-in-Some.ensures ∙ ap (λ l. guard_text (Some l)) c.deref.ensures.value)),
      (None, c.in_ok-ids.ensures.accepted, refl),
    )

pub returns-in_ok-guard_lines-in-None : goal.returns-in_ok-guard_lines-in-None
returns-in_ok-guard_lines-in-None g c =
    let none = rw c.in-None.is at c.in_ok-ids.ensures.adds in (
      conflict none.0 (ap unchanged c.in_ok-guard_lines-in-None.ensures),
      (None, c.in_ok-ids.ensures.accepted, refl),
    )
