use Rattle.std.proofs.Common.{◌∙◌}
use Rattle.stn_pddl.proofs.tree.NameLemmas.{hashed-at, hashed-end}
use Rattle.stn_pddl.proofs.tree.name.hash_folded.Goals as goal

pub loop-byte-preserved : goal.loop-byte-preserved
loop-byte-preserved g c =
    hashed-at g.H.Hasher.write c.args.word.now c.loop-byte-test.true c.to_ascii_lowercase.ensures.value c.write_u8.ensures ∙ c.loop-byte.invariant

pub returns : goal.returns
returns g c = hashed-end g.H.Hasher.write c.loop-byte.state c.loop-byte.byte-index c.args.word.now c.loop-byte-test.false ∙ c.loop-byte.invariant
