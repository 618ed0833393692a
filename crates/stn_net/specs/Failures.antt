-- What is printed for a faulty bound.
use Rattle.stn_refusal.specs.declared.code.Code.TheVariants as code
use Rattle.stn_refusal.specs.{declared.failure.Failure.Failure, Refusals.refused}
use Rattle.stn_net.specs.declared.bound.BoundFault.{BoundFault, TheVariants.{NoEvent, SameEvent, Crossed}}

abbrev pub bound_failure : BoundFault → Failure
bound_failure NoEvent = refused code.NoEvent
bound_failure SameEvent = refused code.SameEvent
bound_failure Crossed = refused code.Crossed
