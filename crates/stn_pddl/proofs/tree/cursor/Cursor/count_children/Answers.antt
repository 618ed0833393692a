use Rattle.std.proofs.Common.{ap, arith}
use Rattle.stn_pddl.specs.Tree.Trees.{Rows, how_many}
use Rattle.stn_pddl.proofs.tree.cursor.Cursor.count_children.Goals as goal

pub children-preserved : goal.children-preserved
unfolding how_many
children-preserved c =
    let counted = rw c.in-Group.ensures.first.0 at c.children.invariant.all_counted in
    let left = ap (λ (rows : Rows). how_many rows.row) c.skip-cursor.ensures.behind in
    record {
      in_range = omega (arith, c.children.invariant.in_range, c.in-Group.ensures.shorter, c.skip-cursor.ensures.shorter);
      all_counted = omega (arith, counted, left);
    }
