use Rattle.std.proofs.Common.{◌≡◌}
use Rattle.stn_pddl.specs.{Tree.Cursors.{row_at, left_at}, Fields.parameters, Views.words_of}
use Rattle.stn_pddl.proofs.fields.read_parameters.Given as goal

abbrev pub invariant-parameters : goal.invariant-parameters
invariant-parameters g l = parameters (row_at l.cursor) (words_of l.names.keys) ≡ parameters (row_at l.fn.children) (words_of l.fn.names.keys)

abbrev pub decreases-parameters : goal.decreases-parameters
decreases-parameters g l = left_at l.cursor
