use Rattle.std.proofs.Common.{◌≡◌, ◌+◌, ◌≤◌, drop}
use Rattle.stn_pddl.specs.Tree.{Trees.rows_from, Cursors.rows_at}
use Rattle.stn_pddl.proofs.tree.cursor.Cursor.next_child.Given as goal

abbrev pub invariant-loop-index : goal.invariant-loop-index
invariant-loop-index l = record {
  in_range : l.line ≤ l.self.line + l.index;
  same_rows : rows_from l.comment l.line (drop l.index l.self.rest.now) ≡ rows_at l.self;
}
