-- What every domain and each of its actions keeps.
use Rattle.std.specs.{Prelude.{◌≡◌, ℕ, ◌<◌, ◌≤◌, length, pos, ◌≤ℤ◌, Ok}, List.AllByRecursion}
use Rattle.stn_pddl.specs.{Tree.Scan.most_text, Schemas.{TermSchema, AtomSchema, ActionSchema, Parameter, Constant}, Domains.{DomainSchema, domain_of}}

-- a parameter is one of so many
abbrev pub IsSoundTerm : ℕ → TermSchema → Type 0
IsSoundTerm arity (Parameter place) = place < arity
IsSoundTerm arity (Constant word) = Unit {0}

abbrev pub IsSoundAtom : ℕ → AtomSchema → Type 0
IsSoundAtom arity atom = AllByRecursion (IsSoundTerm arity) atom.terms

-- the parameters in the atoms are those of the action
pub record HasSoundAtoms (action : ActionSchema) : Type 0 where
  pub start_needs : AllByRecursion (IsSoundAtom (length action.parameters)) action.start_needs
  pub all_needs : AllByRecursion (IsSoundAtom (length action.parameters)) action.all_needs
  pub end_needs : AllByRecursion (IsSoundAtom (length action.parameters)) action.end_needs
  pub start_adds : AllByRecursion (IsSoundAtom (length action.parameters)) action.start_adds
  pub start_deletes : AllByRecursion (IsSoundAtom (length action.parameters)) action.start_deletes
  pub end_adds : AllByRecursion (IsSoundAtom (length action.parameters)) action.end_adds
  pub end_deletes : AllByRecursion (IsSoundAtom (length action.parameters)) action.end_deletes

-- and the duration is not negative
pub record IsSound (action : ActionSchema) : Type 0 where
  pub atoms : HasSoundAtoms action
  pub duration : pos 0 ≤ℤ action.duration

-- what every domain keeps to: its text gives its actions, which are sound
pub record IsDomain (domain : DomainSchema) : Type 0 where
  pub given : domain_of domain.text ≡ Ok domain.actions
  pub short : length domain.text ≤ most_text
  pub sound : AllByRecursion IsSound domain.actions
