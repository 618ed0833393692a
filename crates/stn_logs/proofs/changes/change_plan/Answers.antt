use Rattle.std.proofs.Common.{refl, ap, inl, ◌∙◌}
use Rattle.stn_command.specs.Change.{made_text}
use Rattle.stn_store.proofs.{Lacks.passed_on, Failed.{take_failed}}
use Rattle.stn_logs.specs.Commands.{updated}
use Rattle.stn_logs.proofs.changes.change_plan.Goals as goal

pub returns-in_err-id : goal.returns-in_err-id
returns-in_err-id g c = rw (passed_on _ _ c.from_residual.ensures.1) (take_failed _ _ c.in_err-id.ensures.fault)

pub returns-in_err-print : goal.returns-in_err-print
returns-in_err-print g c = rw (passed_on _ _ c.from_residual-in_err-print.ensures.1) (inl refl)

pub returns : goal.returns
returns g c = (
  (
    c.in_ok-id.id,
    (c.change.new.self, c.in_ok-id.ensures.leaves, ap (updated c.change.new.self) (c.in_ok-print.ensures.printed ∙ rw c.new-text.ensures.items (ap made_text c.of.ensures))),
  ),
  c.in_ok-id.ensures.accepted,
)
