use Rattle.std.{proofs.{Common.{sym, ap, subst}, lemmas.Result.err_from_is_err_and}, specs.Prelude.unwrap_or}
use Rattle.stn_net.specs.Difference.{IsBoundWithin}
use Rattle.stn_lift.specs.PlanSource.{events_of}
use Rattle.stn_site.{specs.{Held.difference, declared.faults.ReplicaFault.TheVariants.Memory}, proofs.Refused.{add_passes, add_refused}}
use Rattle.stn_site.proofs.site_plan.SitePlan.add.Goals as goal

pub returns-in_err-bound-clause-fault : goal.returns-in_err-bound-clause-fault
returns-in_err-bound-clause-fault g c =
    let p = err_from_is_err_and c.from_residual.result c.from_residual.ensures.1 in
    rw (p.1, p.2) (ap (λ o. unwrap_or o Memory) (sym (add_refused c.args.self.now (difference c.args.from c.args.to c.args.lo c.args.hi) c.in_err-bound.field-0.0 c.in_err-bound.ensures.fault)))

pub returns : goal.returns
returns g c =
    let passes = add_passes c.args.self.now (difference c.args.from c.args.to c.args.lo c.args.hi) (subst (IsBoundWithin (events_of c.args.self.now.source)) c.in_ok-bound.ensures.made c.in_ok-bound.ensures.within) in
    record {
      leaves = rw c.in_ok-bound.ensures.made at c.hold.ensures.leaves;
      accepted = rw passes c.hold.ensures.accepted;
      fault = rw passes c.hold.ensures.fault;
      kept = c.hold.ensures.kept;
    }
