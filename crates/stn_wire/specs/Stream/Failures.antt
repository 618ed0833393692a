-- What is printed where bytes begin no frame.
use Rattle.stn_refusal.specs.declared.failure.Failure.{Failure}
use Rattle.stn_wire.specs.{Failures.wire_failure, Stream.wire_fault, declared.stream.fault.FrameFault.FrameFault}

abbrev pub frame_failure : FrameFault → Failure
frame_failure fault = wire_failure (wire_fault fault)
