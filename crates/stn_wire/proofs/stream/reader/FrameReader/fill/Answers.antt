use Rattle.std.proofs.{Common.{arith, take}, lemmas.Grind.common_steps}
use Rattle.stn_wire.proofs.stream.reader.FrameReader.fill.Goals as goal

pub returns-in_ok-extend_from_slice-in-Ok-clause-filled : goal.returns-in_ok-extend_from_slice-in-Ok-clause-filled
returns-in_ok-extend_from_slice-in-Ok-clause-filled g c = (
  take c.in-Ok.count c.read.new.buf,
  c.in-Ok.ensures.bytes.0,
  grind (arith, common_steps),
  grind (arith, common_steps),
  grind (arith, common_steps),
)

pub invariant_of-self-in-Ok : goal.invariant_of-self-in-Ok
invariant_of-self-in-Ok g c = grind (arith, common_steps)

pub slice_bounds-buffer-end-in-Ok : goal.slice_bounds-buffer-end-in-Ok
slice_bounds-buffer-end-in-Ok g c = grind (arith, common_steps)

pub slice_bounds-extend_from_slice-end : goal.slice_bounds-extend_from_slice-end
slice_bounds-extend_from_slice-end g c = grind (arith, common_steps)
