-- What a domain says of its actions.
use Rattle.std.specs.Prelude.{ℕ, Bool, true, false, List, [], ◌∷◌, ◌++◌, ℤ}
use Rattle.stn_pddl.specs.declared.action.Label.{Label, TheVariants.{StartCondition, OverAll, EndCondition, StartEffect, EndEffect}}

-- a term is a parameter of its action, by its place from 0 on, or a constant
pub data TermSchema : Type 0 where
  Parameter : (place : ℕ) → TermSchema
  Constant : (word : List ℕ) → TermSchema

pub record AtomSchema : Type 0 where
  pub predicate : List ℕ
  pub terms : List TermSchema

-- a durative action: its name and parameters, its duration in milliseconds, and the atoms of its conditions and effects in the
-- order of the text
pub record ActionSchema : Type 0 where
  pub name : List ℕ
  pub parameters : List (List ℕ)
  pub duration : ℤ
  pub start_needs : List AtomSchema
  pub all_needs : List AtomSchema
  pub end_needs : List AtomSchema
  pub start_adds : List AtomSchema
  pub start_deletes : List AtomSchema
  pub end_adds : List AtomSchema
  pub end_deletes : List AtomSchema

-- without conditions and effects
abbrev pub bare_action : List ℕ → List (List ℕ) → ℤ → ActionSchema
bare_action name parameters duration = record {
  name = name;
  parameters = parameters;
  duration = duration;
  start_needs = [];
  all_needs = [];
  end_needs = [];
  start_adds = [];
  start_deletes = [];
  end_adds = [];
  end_deletes = [];
}

-- A condition needs its atom, negated or not; an effect adds it, or where it is negated deletes it.
unfoldable pub with_literal : Label → Bool → AtomSchema → ActionSchema → ActionSchema
with_literal StartCondition negated atom action = record action { start_needs = action.start_needs ++ atom ∷ [] }
with_literal OverAll negated atom action = record action { all_needs = action.all_needs ++ atom ∷ [] }
with_literal EndCondition negated atom action = record action { end_needs = action.end_needs ++ atom ∷ [] }
with_literal StartEffect false atom action = record action { start_adds = action.start_adds ++ atom ∷ [] }
with_literal StartEffect true atom action = record action { start_deletes = action.start_deletes ++ atom ∷ [] }
with_literal EndEffect false atom action = record action { end_adds = action.end_adds ++ atom ∷ [] }
with_literal EndEffect true atom action = record action { end_deletes = action.end_deletes ++ atom ∷ [] }
