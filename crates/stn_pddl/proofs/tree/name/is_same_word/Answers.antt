use Rattle.std.proofs.lemmas.{Bool.Decides.same_from_decides, Slice.Eq.bytes_eq-Decides}
use Rattle.stn_pddl.specs.Tree.Names.{is_same_word}
use Rattle.stn_pddl.proofs.tree.name.is_same_word.Goals as goal

pub returns : goal.returns
unfolding is_same_word
returns c = same_from_decides _ _ c.eq_ignore_ascii_case.ensures.test (bytes_eq-Decides _ _)
