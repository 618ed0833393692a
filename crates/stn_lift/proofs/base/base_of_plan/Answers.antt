use Rattle.std.proofs.Common.{rules}
use Rattle.stn_lift.proofs.Texts.{plan_refused, steps_refused}
use Rattle.stn_lift.proofs.base.base_of_plan.Goals as goal

pub returns-in_err-plan-clause-given : goal.returns-in_err-plan-clause-given
returns-in_err-plan-clause-given g c = search (rules, plan_refused)

pub returns-in_err-base-clause-given : goal.returns-in_err-base-clause-given
returns-in_err-base-clause-given g c = search (rules, steps_refused)
