use Rattle.std.proofs.Common.{◌≡◌, []}
use Rattle.stn_pddl.specs.{Tree.Cursors.{row_at, left_at}, Domains.parts}
use Rattle.stn_pddl.proofs.domain.read_parts.Given as goal

abbrev pub invariant-parts : goal.invariant-parts
invariant-parts g l = parts (row_at l.cursor) l.actions ≡ parts (row_at l.fn.children) []

abbrev pub decreases-parts : goal.decreases-parts
decreases-parts g l = left_at l.cursor
