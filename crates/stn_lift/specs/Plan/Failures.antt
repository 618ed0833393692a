-- What is printed for a fault of a plan's text.
use Rattle.stn_refusal.specs.declared.code.Code.TheVariants as code
use Rattle.stn_refusal.specs.{declared.failure.Failure.Failure, Refusals.{refused, refused_at, out_of_memory}}
use Rattle.stn_lift.specs.declared.plan.fault.PlanFault.{PlanFault}
use Rattle.stn_lift.specs.declared.plan.fault.PlanFault.TheVariants as plan

abbrev pub plan_failure : PlanFault → Failure
plan_failure plan.TooLong = refused code.PlanTooLong
plan_failure (plan.Syntax line) = refused_at code.PlanSyntax line
plan_failure (plan.Number line) = refused_at code.PlanNumber line
plan_failure (plan.Negative line) = refused_at code.PlanNegative line
plan_failure plan.TooManySteps = refused code.PlanTooManySteps
plan_failure plan.Memory = out_of_memory
