use Rattle.std.proofs.Common.{◌≡◌}
use Rattle.stn_pddl.specs.{Tree.Cursors.{row_at, left_at}, Fields.{fields, no_values}, FieldViews.values_of}
use Rattle.stn_pddl.proofs.fields.Values.read.Given as goal

abbrev pub invariant-fields : goal.invariant-fields
invariant-fields l = fields (row_at l.cursor) (values_of l.values) ≡ fields (row_at l.fn.children) no_values

abbrev pub decreases-fields : goal.decreases-fields
decreases-fields l = left_at l.cursor
