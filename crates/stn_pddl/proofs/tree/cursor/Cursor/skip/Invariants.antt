use Rattle.std.proofs.Common.{◌≡◌, ◌+◌, ◌*◌, ◌≤◌}
use Rattle.stn_pddl.{specs.Tree.Cursors.{behind_at, left_at}, proofs.tree.Cursors.further}
use Rattle.stn_pddl.proofs.tree.cursor.Cursor.skip.Given as goal

abbrev pub invariant-rows : goal.invariant-rows
invariant-rows l = record {
  in_range : l.depth + left_at l.cursor ≤ left_at l.self;
  same_rows : further l.depth (behind_at l.cursor) ≡ behind_at l.self;
}

abbrev pub decreases-rows : goal.decreases-rows
decreases-rows l = l.depth + 2 * left_at l.cursor
