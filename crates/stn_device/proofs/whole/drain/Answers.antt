use Rattle.std.proofs.{Common.{◌++◌, take, arith, rules, ◌∙◌}, lemmas.Grind.common_steps, KnownBytes.Consumes-trans}
use Rattle.stn_device.proofs.whole.drain.Goals as goal

pub loop-left-preserved : goal.loop-left-preserved
loop-left-preserved g c =
    let i = c.loop-left.invariant in
    let buf = c.read.new.buf in
    record {
      piece_len = grind (arith, common_steps, c.read.auto.buf, i.piece_len);
      bytes = (
        i.bytes.0 ++ take c.in-Ok.count buf,
        Consumes-trans _ _ _ _ _ i.bytes.1 c.in-Ok.ensures.bytes.0,
        grind (arith, common_steps),
      );
      kept = c.in-Ok.ensures.passed ∙ i.kept;
    }

pub loop-left-init : goal.loop-left-init
loop-left-init g c = search rules
