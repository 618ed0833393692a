-- Why a source has no base, from why its parts have a fault: lack of memory is always Memory.
use Rattle.stn_pddl.specs.declared.fault.DomainFault.{DomainFault}
use Rattle.stn_pddl.specs.declared.fault.DomainFault.TheVariants as domain
use Rattle.stn_lift.specs.declared.{plan.fault.PlanFault.PlanFault, fault.{LiftFault.LiftFault, BaseFault.{BaseFault, TheVariants.{Domain, Plan, Lift, Memory}}}}
use Rattle.stn_lift.specs.declared.plan.fault.PlanFault.TheVariants as plan
use Rattle.stn_lift.specs.declared.fault.LiftFault.TheVariants as lifting

abbrev pub of_domain : DomainFault → BaseFault
of_domain domain.Memory = Memory
of_domain fault = Domain fault

abbrev pub of_plan : PlanFault → BaseFault
of_plan plan.Memory = Memory
of_plan fault = Plan fault

abbrev pub of_lifting : LiftFault → BaseFault
of_lifting lifting.Memory = Memory
of_lifting fault = Lift fault
