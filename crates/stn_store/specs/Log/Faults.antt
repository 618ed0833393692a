-- Why a log is not loaded, from why its stream ends or one of its frames is refused: lack of memory is always Memory.
use Rattle.stn_device.specs.declared.whole.ReadFault.{ReadFault}
use Rattle.stn_wire.specs.{declared.stream.fault.FrameFault.FrameFault, Stream.wire_fault}
use Rattle.stn_device.specs.declared.whole.ReadFault.TheVariants as stream
use Rattle.stn_lift.specs.declared.fault.BaseFault.{BaseFault}
use Rattle.stn_lift.specs.declared.fault.BaseFault.TheVariants as base
use Rattle.stn_site.specs.declared.faults.ReplicaFault.{ReplicaFault}
use Rattle.stn_site.specs.declared.faults.ReplicaFault.TheVariants as replica
use Rattle.stn_store.specs.declared.log.fault.LoadFault.{LoadFault, TheVariants.{Read, Bound, Frame, Base, Take, Memory}}

abbrev pub of_stream : ReadFault → LoadFault
of_stream stream.Read = Read
of_stream stream.Bound = Bound
of_stream stream.Memory = Memory

abbrev pub of_frame : FrameFault → LoadFault
of_frame fault = Frame (wire_fault fault)

abbrev pub of_base : BaseFault → LoadFault
of_base base.Memory = Memory
of_base fault = Base fault

abbrev pub of_replica : ReplicaFault → LoadFault
of_replica replica.Memory = Memory
of_replica fault = Take fault
