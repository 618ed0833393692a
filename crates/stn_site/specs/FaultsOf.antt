use Rattle.stn_records.specs.declared.faults.RecordsFault.{RecordsFault}
use Rattle.stn_records.specs.declared.faults.RecordsFault.TheVariants as records
use Rattle.stn_site.specs.declared.faults.ReplicaFault.{ReplicaFault}
use Rattle.stn_site.specs.declared.faults.ReplicaFault.TheVariants as replica

-- a fault of the records, as one of a replica: the id of a new record, which is not known, cannot replace itself
abbrev pub of_records_fault : RecordsFault → ReplicaFault
of_records_fault records.SelfReplace = replica.Unknown
of_records_fault (records.Clash id) = replica.Clash id
of_records_fault records.Unknown = replica.Unknown
of_records_fault records.Full = replica.Full
of_records_fault records.Memory = replica.Memory
