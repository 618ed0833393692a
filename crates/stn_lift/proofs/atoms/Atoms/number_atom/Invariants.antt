use Rattle.std.{proofs.Common.{◌∷◌, map, take}, specs.List.AllZip}
use Rattle.stn_pddl.specs.{Tree.Names.folded, Views.terms_schema}
use Rattle.stn_lift.specs.{Plan.Views.word_of, Footprints.term_name, Numbering.{KeepsNumbers, IsNameAt}}
use Rattle.stn_lift.proofs.atoms.Atoms.number_atom.Given as goal

-- the predicate and the first terms are spelt
abbrev pub invariant-loop-term : goal.invariant-loop-term
invariant-loop-term g l = record {
  kept : KeepsNumbers l.fn.self l.self;
  names : AllZip (IsNameAt l.self.names) l.spelling.items
      (folded l.atom.predicate.bytes.now ∷ map (λ term. folded (term_name (map word_of l.args) term)) (take l.term-index (terms_schema l.atom.terms.items)));
}
