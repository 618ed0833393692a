-- What is printed where a plan has no base.
use Rattle.stn_refusal.specs.declared.code.Code.TheVariants as code
use Rattle.stn_refusal.specs.{declared.failure.Failure.Failure, Refusals.{refused, refused_at, out_of_memory}}
use Rattle.stn_pddl.specs.Failures.{domain_failure}
use Rattle.stn_lift.specs.{Plan.Failures.plan_failure, declared.fault.{LiftFault.LiftFault, BaseFault.BaseFault}}
use Rattle.stn_lift.specs.declared.fault.LiftFault.TheVariants as lifting
use Rattle.stn_lift.specs.declared.fault.BaseFault.TheVariants as base

abbrev pub lift_failure : LiftFault → Failure
lift_failure (lifting.UnknownAction step) = refused_at code.UnknownAction step
lift_failure (lifting.Arity step) = refused_at code.Arity step
lift_failure (lifting.DurationDiffers step) = refused_at code.DurationDiffers step
lift_failure (lifting.PastHorizon step) = refused_at code.PastHorizon step
lift_failure lifting.Memory = out_of_memory

abbrev pub base_failure : BaseFault → Failure
base_failure (base.Domain fault) = domain_failure fault
base_failure (base.Plan fault) = plan_failure fault
base_failure (base.Lift fault) = lift_failure fault
base_failure base.TooManySteps = refused code.BareTooManySteps
base_failure base.Memory = out_of_memory
