-- Terms, atoms and equalities.
use Rattle.std.specs.Prelude.{ℕ, Bool, List, [], ◌∷◌, ◌++◌, Option, Some, None, Result, Ok, Err, ◌==◌, if◌then◌else◌, position}
use Rattle.stn_pddl.specs.{Tree.{Names.is_same_word, Trees.{Trees, End, Word, Group, how_many}}, declared.{fault.DomainFault.{DomainFault, TheVariants.{Syntax, Unsupported, Variable}}, action.Label.Label}, Words.{is_variable, is_key}, Schemas.{TermSchema, ActionSchema, Parameter, Constant, with_literal}}
use Rattle.stn_text.specs.Faults.{◌>>=◌}

-- a word that begins with `?` is a parameter of the action
abbrev pub parameter_at : ℕ → Option ℕ → Result TermSchema DomainFault
parameter_at line None = Err (Variable line)
parameter_at line (Some place) = Ok (Parameter place)

-- a term that is a word on a line
unfoldable pub term : List (List ℕ) → ℕ → List ℕ → Result TermSchema DomainFault
term parameters line word =
    if is_variable word then parameter_at line (position (is_same_word word) parameters)
    else (if is_key word then Err (Syntax line) else Ok (Constant word))

-- terms from left to right, after those that stood before
unfoldable pub terms : List (List ℕ) → Trees → List TermSchema → Result (List TermSchema) DomainFault
terms parameters End before = Ok before
terms parameters (Word line word next) before = term parameters line word >>= λ found. terms parameters next (before ++ found ∷ [])
terms parameters (Group line children next) before = Err (Unsupported line)

-- an atom of a predicate, as a literal with this label
unfoldable pub atom : Label → Bool → List ℕ → Trees → ActionSchema → Result ActionSchema DomainFault
atom label negated predicate rest action =
    terms action.parameters rest [] >>= λ found. Ok (with_literal label negated (record { predicate = predicate; terms = found }) action)

-- an equality has exactly two terms, and names no atom
unfoldable pub equality : ℕ → Trees → ActionSchema → Result ActionSchema DomainFault
equality line rest action =
    if how_many rest == 2 then (terms action.parameters rest [] >>= λ found. Ok action) else Err (Syntax line)
