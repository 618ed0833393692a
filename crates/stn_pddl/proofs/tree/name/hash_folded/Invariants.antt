use Rattle.std.proofs.Common.{◌≡◌, drop, fold}
use Rattle.stn_pddl.specs.Tree.Names.{hash_writes}
use Rattle.stn_pddl.proofs.tree.name.hash_folded.Given as goal

abbrev pub invariant-loop-byte : goal.invariant-loop-byte
invariant-loop-byte g l =
    fold g.H.Hasher.write l.state (hash_writes (drop l.byte-index l.word)) ≡ fold g.H.Hasher.write l.initial.state (hash_writes l.word)
