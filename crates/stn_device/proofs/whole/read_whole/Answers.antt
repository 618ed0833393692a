use Rattle.std.proofs.{Common.arith, lemmas.Grind.common_steps}
use Rattle.stn_device.proofs.Known.{ConsumesAtMost-trans, longer_than}
use Rattle.stn_device.proofs.whole.read_whole.Goals as goal

pub loop-piece-preserved : goal.loop-piece-preserved
loop-piece-preserved g c = grind (arith, common_steps)

pub returns-in_err-extend_from_slice-in-Ok-clause-used : goal.returns-in_err-extend_from_slice-in-Ok-clause-used
returns-in_err-extend_from_slice-in-Ok-clause-used g c = ConsumesAtMost-trans _ _ _ _ _ c.loop-piece.invariant.bytes c.in-Ok.ensures.bytes.0 (grind (arith, common_steps))

pub returns-in-Ok-read-clause-used : goal.returns-in-Ok-read-clause-used
returns-in-Ok-read-clause-used g c = ConsumesAtMost-trans _ _ _ _ _ c.loop-piece.invariant.bytes c.in-Ok-read.ensures.bytes.0 (grind (arith, common_steps))

pub returns-in-Ok-read-clause-bytes : goal.returns-in-Ok-read-clause-bytes
returns-in-Ok-read-clause-bytes g c = tt

pub returns-in-Ok-read-clause-within : goal.returns-in-Ok-read-clause-within
returns-in-Ok-read-clause-within g c = tt

pub returns-in-Ok-read-clause-end : goal.returns-in-Ok-read-clause-end
returns-in-Ok-read-clause-end g c = tt

pub returns-in-Ok-read-clause-bound : goal.returns-in-Ok-read-clause-bound
returns-in-Ok-read-clause-bound g c = λ is. longer_than _ _ _ _ _ c.loop-piece.invariant.bytes c.in-Ok-read.ensures.bytes.0 (grind (arith, common_steps))
