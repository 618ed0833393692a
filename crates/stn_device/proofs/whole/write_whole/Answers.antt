use Rattle.std.proofs.{lemmas.Grind.common_steps, Common.{arith, rules}}
use Rattle.stn_device.proofs.Known.{AppendsPart-more}
use Rattle.stn_device.proofs.whole.write_whole.Goals as goal

pub loop-rest-preserved : goal.loop-rest-preserved
loop-rest-preserved g c = record {
  part = AppendsPart-more _ _ _ _ _ _ c.loop-rest.invariant.part.1 c.loop-rest.invariant.part.2 c.in-Ok.ensures.bytes (grind (arith, common_steps));
  kept = grind (arith, common_steps);
}

pub returns-in-Ok-eq0 : goal.returns-in-Ok-eq0
returns-in-Ok-eq0 g c = record { written = tt; part = search rules; failed = search rules; kept = tt }
