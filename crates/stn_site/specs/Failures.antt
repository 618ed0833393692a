-- What is printed where a replica refuses a change.
use Rattle.stn_refusal.specs.declared.code.Code.TheVariants as code
use Rattle.stn_refusal.specs.{declared.failure.Failure.Failure, Refusals.{refused, refused_for, out_of_memory}}
use Rattle.stn_net.specs.Failures.{bound_failure}
use Rattle.stn_site.specs.declared.faults.ReplicaFault.{ReplicaFault}
use Rattle.stn_site.specs.declared.faults.ReplicaFault.TheVariants as replica

abbrev pub replica_failure : ReplicaFault → Failure
replica_failure (replica.Bound fault) = bound_failure fault
replica_failure replica.CounterSpent = refused code.CounterSpent
replica_failure replica.Full = refused code.Full
replica_failure replica.Unknown = refused code.Unknown
replica_failure (replica.Clash id) = refused_for code.Clash id
replica_failure replica.Memory = out_of_memory
