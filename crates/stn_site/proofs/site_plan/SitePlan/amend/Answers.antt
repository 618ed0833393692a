use Rattle.std.proofs.{lemmas.Grind.common_steps, Common.{arith, sym, ap, subst, ◌∙◌}}
use Rattle.stn_net.specs.Difference.{IsBoundWithin}
use Rattle.stn_lift.specs.PlanSource.{events_of}
use Rattle.stn_records.specs.Content.{is_known}
use Rattle.stn_site.{specs.Held.{Held, difference}, proofs.Refused.amend_known}
use Rattle.stn_site.proofs.site_plan.SitePlan.amend.Goals as goal

pub returns-then-not-is_known-clause-fault : goal.returns-then-not-is_known-clause-fault
returns-then-not-is_known-clause-fault g c = grind (arith, common_steps)

pub returns : goal.returns
returns g c =
    let bound = difference c.args.from c.args.to c.args.lo c.args.hi in
    let within = subst (IsBoundWithin (events_of c.args.self.now.source)) c.in_ok-bound.ensures.made c.in_ok-bound.ensures.within in
    let known = ap (λ (h : Held). is_known h.state c.args.old) (sym c.self.view_is) ∙ sym c.if-not-is_known.ensures in
    let passes = amend_known c.args.self.now c.args.old bound within known in
    record {
      leaves = rw c.in_ok-bound.ensures.made at c.replace.ensures.leaves;
      accepted = rw passes c.replace.ensures.accepted;
      fault = rw passes c.replace.ensures.fault;
      kept = c.replace.ensures.kept;
    }
