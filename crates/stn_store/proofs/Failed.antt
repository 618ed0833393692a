-- Why a call of a site failed, by the fault that it gave, and what is told of it.
use Rattle.std.{proofs.Common.{rules, ◌≡◌, ◌⊎◌, Option, Some}, specs.Prelude.{unwrap_or, option_map}}
use Rattle.stn_site.specs.{declared.faults.ReplicaFault.{ReplicaFault, TheVariants.Memory}, Failures.replica_failure}
use Rattle.stn_refusal.specs.declared.failure.Failure.TheVariants.{Failed}
use Rattle.stn_refusal.specs.declared.failure.Fault.TheVariants as lack

-- as lack of memory, or as what refuses it
pub take_failed : (refusal : Option ReplicaFault) (fault : ReplicaFault) → fault ≡ unwrap_or refusal Memory
    → (replica_failure fault ≡ Failed lack.Memory) ⊎ (Some (replica_failure fault) ≡ option_map replica_failure refusal)
take_failed refusal fault e = search rules
