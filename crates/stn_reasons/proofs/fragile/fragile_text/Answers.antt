use Rattle.std.proofs.Common.{sym, subst}
use Rattle.stn_lift.specs.PlanSource.{PlanSource}
use Rattle.stn_loosen.specs.Fragile.{TellsFragile}
use Rattle.stn_reasons.proofs.fragile.fragile_text.Goals as goal

pub returns : goal.returns
returns g c = record {
  actions = c.in_ok-domain.domain.items;
  domain_says = c.in_ok-domain.ensures.spelled;
  steps = c.in_ok-plan.plan.items;
  plan_says = c.in_ok-plan.ensures.spelled;
  slack = c.in_ok-tolerance.tolerance;
  varies = sym c.in_ok-tolerance.ensures;
  told = subst (λ (source : PlanSource). TellsFragile source c.in_ok-tolerance.tolerance c.in_ok-fragile_lines.field-0.items) c.in_ok-base.ensures.made c.in_ok-fragile_lines.ensures;
}
