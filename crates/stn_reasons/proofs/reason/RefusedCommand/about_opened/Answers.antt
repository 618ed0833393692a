use Rattle.std.proofs.{Common.{◌≡◌, ◌∙◌, Some, sym, ap, inl, inr, ⊎_elim, option_map}, lemmas.Result.IfOk-weaker}
use Rattle.stn_reasons.{specs.Reasons.{of_log, of_other, of_plan, other_of}, proofs.Opened.refuses}
use Rattle.stn_reasons.proofs.reason.RefusedCommand.about_opened.Goals as goal

pub returns-in-Some : goal.returns-in-Some
returns-in-Some g c =
    let other : other_of c.args.self.now.line.now ≡ Some c.in-Some.other.now = sym c.other_of.ensures ∙ ap (option_map (λ name. name.now)) c.in-Some.is in
    IfOk-weaker c.about_other.result _ _ (λ text told. ⊎_elim (λ is. inl (of_other c.in-Some.other.now other is.0 is.1)) inr told) c.about_other.ensures

pub returns-in-None : goal.returns-in-None
returns-in-None g c = IfOk-weaker c.about_plan.result _ _
    (λ text told. inl (of_plan _ (c.args.log.now, c.in-Ok.plan, c.requires, c.in-Ok.ensures.opened, sym c.base.ensures) told)) c.about_plan.ensures

pub returns-in-Err : goal.returns-in-Err
returns-in-Err g c =
    let entries = g.S.Store.entries c.args.self.now.store.now in
    IfOk-weaker c.unopened_text.result _ _ (λ text told. ⊎_elim
    (λ is. inl (of_log c.args.log.now c.requires (refuses g.S.Store.fails entries c.args.log.now.name.now c.in-Err.failure c.args.self.now.refusal c.in-Err.ensures.failed is.0) is.1))
    inr told) c.unopened_text.ensures
