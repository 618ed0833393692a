use Rattle.std.proofs.Common.{◌≡◌, ◌+◌, drop}
use Rattle.stn_pddl.specs.Tree.Trees.{word_len}
use Rattle.stn_pddl.proofs.tree.word.word_len.Given as goal

abbrev pub invariant-loop-index : goal.invariant-loop-index
invariant-loop-index l = l.index + word_len (drop l.index l.bytes) ≡ word_len l.bytes
