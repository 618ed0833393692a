-- Ground atoms, and which of them an event needs, adds and deletes.
use Rattle.std.specs.{Prelude.{ℕ, Bool, ◌||◌, ◌⊎◌, List, [], ◌∷◌, ◌++◌, map, slice_index_or, Contains}, Cmp.Lexicographic.pointwise, List.list_any, Str.bytes_eq}
use Rattle.stn_pddl.specs.{Tree.Names.folded, Schemas.{TermSchema, Parameter, Constant, AtomSchema, ActionSchema}}

-- a ground atom: the names of its predicate and of its terms, with small letters for capital ones
abbrev pub GroundAtom : Type 0
GroundAtom = List (List ℕ)

-- the name that a term stands for in a step with these arguments
abbrev pub term_name : List (List ℕ) → TermSchema → List ℕ
term_name args (Parameter place) = slice_index_or args place []
term_name args (Constant word) = word

-- an atom of an action in a step with these arguments
abbrev pub ground : List (List ℕ) → AtomSchema → GroundAtom
ground args atom = folded atom.predicate ∷ map (λ term. folded (term_name args term)) atom.terms

-- what an event needs, adds and deletes: ground atoms, or numbers in their place
pub record Footprint (A : Type 0) : Type 0 where
  pub needs : List A
  pub adds : List A
  pub deletes : List A

-- that of the origin
abbrev pub no_footprint : {A : Type 0} → Footprint A
no_footprint = record { needs = []; adds = []; deletes = [] }

-- the start of a step needs what its action needs at its start and over all of it
abbrev pub start_footprint : ActionSchema → List (List ℕ) → Footprint GroundAtom
start_footprint action args = record {
  needs = map (ground args) (action.start_needs ++ action.all_needs);
  adds = map (ground args) action.start_adds;
  deletes = map (ground args) action.start_deletes;
}

-- and its end what the action needs at its end and over all of it
abbrev pub end_footprint : ActionSchema → List (List ℕ) → Footprint GroundAtom
end_footprint action args = record {
  needs = map (ground args) (action.end_needs ++ action.all_needs);
  adds = map (ground args) action.end_adds;
  deletes = map (ground args) action.end_deletes;
}

abbrev pub is_same_atom : GroundAtom → GroundAtom → Bool
is_same_atom a b = pointwise bytes_eq a b

-- some element is in both lists
abbrev pub IsInBoth : {A : Type 0} → List A → List A → Type 0
IsInBoth {A} xs ys = (x : A) × Contains xs x × Contains ys x

-- whether some element is in both lists, by this test of equality
abbrev pub share : {A : Type 0} → (A → A → Bool) → List A → List A → Bool
share same xs ys = list_any (λ x. list_any (same x) ys) xs

-- the one needs what the other adds or deletes, or adds what the other deletes
abbrev pub touches : {A : Type 0} → (A → A → Bool) → Footprint A → Footprint A → Bool
touches same one other = share same one.needs other.adds || (share same one.needs other.deletes || share same one.adds other.deletes)

-- the same as a statement
abbrev pub DoesTouch : {A : Type 0} → Footprint A → Footprint A → Type 0
DoesTouch one other = IsInBoth one.needs other.adds ⊎ (IsInBoth one.needs other.deletes ⊎ IsInBoth one.adds other.deletes)

abbrev pub EitherTouches : {A : Type 0} → Footprint A → Footprint A → Type 0
EitherTouches one other = DoesTouch one other ⊎ DoesTouch other one

-- two events interfere where either touches the other
abbrev pub interfere : {A : Type 0} → (A → A → Bool) → Footprint A → Footprint A → Bool
interfere same one other = touches same one other || touches same other one
