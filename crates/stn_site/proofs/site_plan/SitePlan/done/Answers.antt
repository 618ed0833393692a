use Rattle.std.{proofs.{Common.{sym, ap, ◌∙◌}, lemmas.{Bool.{eqb-true, eqb-false}, Result.err_from_is_err_and}}, specs.Prelude.unwrap_or}
use Rattle.stn_site.{specs.declared.faults.ReplicaFault.TheVariants.Memory, proofs.Refused.{done_origin, fixed_refused}}
use Rattle.stn_site.proofs.site_plan.SitePlan.done.Goals as goal

pub returns-then-eq-clause-fault : goal.returns-then-eq-clause-fault
returns-then-eq-clause-fault g c =
    ap (λ o. unwrap_or o Memory) (sym (done_origin c.args.self.now c.args.event (eqb-true c.args.event c.origin.result (sym c.if-eq.ensures) ∙ c.origin.ensures)))

pub returns-in_err-bound-clause-fault : goal.returns-in_err-bound-clause-fault
returns-in_err-bound-clause-fault g c =
    let p = err_from_is_err_and c.from_residual.result c.from_residual.ensures.1 in
    rw (p.1, p.2) (ap (λ o. unwrap_or o Memory) (sym (fixed_refused c.args.self.now c.origin-2.result c.args.event c.args.time c.in_err-bound.field-0.0 c.origin-2.ensures
    (λ first. eqb-false c.args.event c.origin.result (sym c.if-eq.ensures) (first ∙ sym c.origin.ensures)) c.in_err-bound.ensures.fault)))

pub returns-clause-leaves : goal.returns-clause-leaves
returns-clause-leaves g c = rw (c.in_ok-bound.ensures.made, c.origin-2.ensures) at c.hold.ensures.leaves
