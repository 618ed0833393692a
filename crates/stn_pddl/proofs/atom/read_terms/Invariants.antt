use Rattle.std.proofs.Common.{◌≡◌, ◌≤◌, []}
use Rattle.stn_pddl.specs.{Tree.Cursors.{row_at, behind_at, left_at}, Atoms.terms, Views.{words_of, terms_schema}}
use Rattle.stn_pddl.proofs.atom.read_terms.Given as goal

abbrev pub invariant-terms : goal.invariant-terms
invariant-terms g l = record {
  given : terms (words_of l.parameters.keys) (row_at l.cursor) (terms_schema l.terms.items) ≡ terms (words_of l.parameters.keys) (row_at l.fn.children) [];
  behind : behind_at l.cursor ≡ behind_at l.fn.children;
  shorter : left_at l.cursor ≤ left_at l.fn.children;
}

abbrev pub decreases-terms : goal.decreases-terms
decreases-terms g l = left_at l.cursor
