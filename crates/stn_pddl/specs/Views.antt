-- What the values of the code say.
use Rattle.std.specs.{Prelude.{◌≡◌, ℕ, List, map}, List.AllByRecursion}
use Rattle.stn_pddl.specs.{declared.{tree.name.Name.Name, action.{Term.Term, Atom.Atom, Action.Action}}, Schemas.{TermSchema, AtomSchema, ActionSchema, Parameter, Constant}}
use Rattle.stn_pddl.specs.declared.action.Term.TheVariants as code

abbrev pub bytes_of_name : Name → List ℕ
bytes_of_name name = name.bytes.now

abbrev pub words_of : List Name → List (List ℕ)
words_of names = map bytes_of_name names

abbrev pub term_schema : Term → TermSchema
term_schema (code.Parameter place) = Parameter place
term_schema (code.Constant name) = Constant (bytes_of_name name)

abbrev pub terms_schema : List Term → List TermSchema
terms_schema terms = map term_schema terms

abbrev pub atom_schema : {A : Type 0} → Atom A → AtomSchema
atom_schema atom = record { predicate = bytes_of_name atom.predicate; terms = terms_schema atom.terms.items }

abbrev pub atoms_schema : {A : Type 0} → List (Atom A) → List AtomSchema
atoms_schema atoms = map atom_schema atoms

unfoldable pub action_schema : {A : Type 0} → Action A → ActionSchema
action_schema action = record {
  name = bytes_of_name action.name;
  parameters = words_of action.parameters.keys;
  duration = action.duration;
  start_needs = atoms_schema action.start_needs.items;
  all_needs = atoms_schema action.all_needs.items;
  end_needs = atoms_schema action.end_needs.items;
  start_adds = atoms_schema action.start_adds.items;
  start_deletes = atoms_schema action.start_deletes.items;
  end_adds = atoms_schema action.end_adds.items;
  end_deletes = atoms_schema action.end_deletes.items;
}

-- the actions of a map, in its order
abbrev pub entries_schema : {A : Type 0} → List (Name × Action A) → List ActionSchema
entries_schema entries = map (λ e. action_schema e.1) entries

-- each action stands under its own name
abbrev pub AreNamed : {A : Type 0} → List (Name × Action A) → Type 0
AreNamed entries = AllByRecursion (λ e. bytes_of_name e.0 ≡ (action_schema e.1).name) entries
