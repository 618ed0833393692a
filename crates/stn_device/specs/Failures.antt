-- What is printed where an input can't be read.
use Rattle.stn_refusal.specs.{declared.failure.Failure.{Failure, TheVariants.Failed}, Refusals.out_of_memory}
use Rattle.stn_refusal.specs.declared.failure.Fault.TheVariants as device
use Rattle.stn_device.specs.declared.whole.ReadFault.{ReadFault, TheVariants.{Read, Bound, Memory}}

abbrev pub read_failure : ReadFault → Failure
read_failure Read = Failed device.Read
read_failure Bound = Failed device.Bound
read_failure Memory = out_of_memory
