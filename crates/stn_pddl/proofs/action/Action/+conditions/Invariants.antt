use Rattle.std.proofs.Common.{◌≡◌, ◌+◌, ◌≤◌}
use Rattle.stn_pddl.specs.{Tree.Cursors.{row_at, behind_at, left_at}, Conditions.row, Views.action_schema}
use Rattle.stn_pddl.proofs.action.Action.+conditions.Given as goal

abbrev pub decreases-read_plain : goal.decreases-read_plain
decreases-read_plain g l = (left_at l.rest + left_at l.rest) + 1

abbrev pub decreases-read_labelled : goal.decreases-read_labelled
decreases-read_labelled g l = left_at l.children + left_at l.children

abbrev pub decreases-read_timed : goal.decreases-read_timed
decreases-read_timed g l = (left_at l.rest + left_at l.rest) + 1

abbrev pub decreases-read_row : goal.decreases-read_row
decreases-read_row g l = left_at l.children + left_at l.children

abbrev pub decreases-read_tree : goal.decreases-read_tree
decreases-read_tree g l = left_at l.children + left_at l.children

abbrev pub invariant-read_row-trees : goal.invariant-read_row-trees
invariant-read_row-trees g l = record {
  given : row l.form (row_at l.cursor) (action_schema l.self) ≡ row l.form (row_at l.fn.children) (action_schema l.fn.self);
  behind : behind_at l.cursor ≡ behind_at l.fn.children;
  shorter : left_at l.cursor ≤ left_at l.fn.children;
}

abbrev pub decreases-read_row-trees : goal.decreases-read_row-trees
decreases-read_row-trees g l = left_at l.cursor
