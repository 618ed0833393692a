-- What is printed for a fault of a frame.
use Rattle.stn_refusal.specs.declared.code.Code.TheVariants as code
use Rattle.stn_refusal.specs.{declared.failure.Failure.Failure, Refusals.{refused, out_of_memory}}
use Rattle.stn_wire.specs.declared.fault.WireFault.{WireFault}
use Rattle.stn_wire.specs.declared.fault.WireFault.TheVariants as wire

abbrev pub wire_failure : WireFault → Failure
wire_failure wire.Length = refused code.FrameLength
wire_failure wire.Kind = refused code.FrameKind
wire_failure wire.Body = refused code.FrameBody
wire_failure wire.OldFrame = refused code.OldFrame
wire_failure wire.Memory = out_of_memory
