-- What a log makes of a frame, from what a base and a replica answer.
use Rattle.std.{proofs.Common.{rules, ◌≡◌, true, not, Option, Some, None, Ok}, specs.Prelude.{unwrap_or, is_some}}
use Rattle.stn_records.specs.Content.{Content}
use Rattle.stn_site.specs.{Calls.{Leaves, took}, Held.Held, Refusals.take_refusal, declared.faults.ReplicaFault.ReplicaFault}
use Rattle.stn_site.specs.declared.faults.ReplicaFault.TheVariants as replica
use Rattle.stn_store.specs.{Log.{Log, log_held, so_far, joined, taken_in, Faults.of_replica, Opening.IsRefused}, declared.log.version.Version.Version}

-- a state that is not taken
named : (version : Version) (log : Log) (state : Content) (fault : ReplicaFault) → IsRefused (joined version (Some fault) log state) (of_replica fault)
named version log state fault = search rules

by_refusal : (version : Version) (refusal : Option ReplicaFault) (log : Log) (state : Content) → IsRefused (joined version refusal log state) (of_replica (unwrap_or refusal replica.Memory))
by_refusal version refusal log state = search rules

pub take_refused : (version : Version) (old : Held) (state : Content) {fault : ReplicaFault} → fault ≡ unwrap_or (take_refusal old state) replica.Memory
    → IsRefused (taken_in version (log_held old) state) (of_replica fault)
take_refused version old state is = search rules

-- a state that is taken
none_there : {X : Type 0} {o : Option X} → not (is_some o) ≡ true → o ≡ None
none_there e = search rules

pub state_taken : {version : Version} {old new : Held} {state : Content} → take_refusal old state ≡ None → Leaves old (took state) new → taken_in version (log_held old) state ≡ Ok (so_far version (log_held new))
state_taken none leaves = search rules
