use Rattle.std.proofs.Common.{◌≡◌, ◌+◌, ◌≤◌}
use Rattle.stn_pddl.specs.Tree.{Trees.how_many, Cursors.{row_at, left_at}}
use Rattle.stn_pddl.proofs.tree.cursor.Cursor.count_children.Given as goal

abbrev pub invariant-children : goal.invariant-children
invariant-children l = record {
  in_range : l.count + left_at l.cursor ≤ left_at l.self;
  all_counted : l.count + how_many (row_at l.cursor) ≡ how_many (row_at l.self);
}

abbrev pub decreases-children : goal.decreases-children
decreases-children l = left_at l.cursor
