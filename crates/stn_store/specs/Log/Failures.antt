-- What is printed where a log is not loaded.
use Rattle.stn_refusal.specs.declared.code.Code.TheVariants as code
use Rattle.stn_refusal.specs.{declared.failure.Failure.{Failure, TheVariants.Failed}, Refusals.{refused, out_of_memory}}
use Rattle.stn_refusal.specs.declared.failure.Fault.TheVariants as device
use Rattle.stn_wire.specs.Failures.{wire_failure}
use Rattle.stn_lift.specs.Failures.{base_failure}
use Rattle.stn_site.specs.Failures.{replica_failure}
use Rattle.stn_store.specs.declared.log.fault.LoadFault.{LoadFault}
use Rattle.stn_store.specs.declared.log.fault.LoadFault.TheVariants as load

abbrev pub load_failure : LoadFault → Failure
load_failure load.Read = Failed device.Read
load_failure load.Bound = Failed device.Bound
load_failure (load.Frame fault) = wire_failure fault
load_failure load.LogForm = refused code.LogForm
load_failure (load.Base fault) = base_failure fault
load_failure (load.Take fault) = replica_failure fault
load_failure load.Memory = out_of_memory
