use Rattle.std.proofs.Common.{arith}
use Rattle.stn_pddl.{specs.Tree.{Cursors.{rows_at, left_at}}, proofs.tree.Rows.{split-word, word_len-positive}}
use Rattle.stn_pddl.proofs.tree.cursor.Child.word_at.Goals as goal

pub returns-clause-first : goal.returns-clause-first
unfolding rows_at
returns-clause-first c = split-word _ c.requires.letter c.word_len.ensures.len c.split_at.ensures.front c.split_at.ensures.back

pub returns-clause-shorter : goal.returns-clause-shorter
unfolding left_at
returns-clause-shorter c = omega (arith, word_len-positive)
