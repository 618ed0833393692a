use Rattle.std.proofs.{Common.{None, Some, take, arith}, lemmas.{Grind.common_steps, Bool.Decides.Decides-eqb, Slice.Eq.strip_prefix_is}}
use Rattle.stn_store.proofs.Compared.{alike_further, others_there}
use Rattle.stn_store.proofs.reading.are_these.Goals as goal

pub pieces-preserved : goal.pieces-preserved
pieces-preserved g c =
    let done = c.pieces.invariant.done in
    record {
      piece_len = grind (arith, common_steps, c.read.auto.buf, c.pieces.invariant.piece_len);
      done = alike_further _ _ _ done.0 _ done.1 (strip_prefix_is Decides-eqb c.pieces.left.now (take c.in-Ok.count c.read.new.buf) (Some c.in-Some.rest) c.in-Some.ensures.cases) done.2 c.in-Ok.ensures.bytes.0;
    }

pub returns-in-None-clause-same : goal.returns-in-None-clause-same
returns-in-None-clause-same g c =
    let done = c.pieces.invariant.done in
    others_there _ _ _ done.0 _ done.1 (strip_prefix_is Decides-eqb c.pieces.left.now (take c.in-Ok.count c.read.new.buf) None c.in-None.ensures.cases) done.2 c.in-Ok.ensures.bytes.0

pub returns-in-Ok-eq0-clause-same : goal.returns-in-Ok-eq0-clause-same
returns-in-Ok-eq0-clause-same g c = grind (arith, common_steps)
