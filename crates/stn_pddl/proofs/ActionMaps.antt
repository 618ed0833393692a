-- A map of actions, and the list of what it says.
use Rattle.std.{proofs.Common.{rules, ◌≡◌, ℕ, false, List, [], ◌∷◌, ◌++◌, Option, Some, None, is_some, MatchOption, Result, OnOk, OnErr, refl}, specs.{Option.{option_map, option_copied}, Borrow.Bor, Map.lookup}}
use Rattle.stn_time.proofs.Each.{each_pushed}
use Rattle.stn_pddl.specs.{declared.{tree.name.Name.Name, action.Action.Action}, Tree.Names.is_same_word, Schemas.ActionSchema, Actions.is_taken, Domains.action_named, Views.{bytes_of_name, action_schema, entries_schema, AreNamed}}

module _ {A : Type 0} where
  pub AreNamed-inserted : {E : Type 0} (result : Result (Unit {0}) E) (old new : List (Name × Action A)) (name : Name) (action : Action A) → bytes_of_name name ≡ (action_schema action).name
      → OnOk result (new ≡ old ++ (name, action) ∷ []) → OnErr result (new ≡ old) → AreNamed old → AreNamed new
  AreNamed-inserted result old new name action same added kept named = search (rules, each_pushed)

  module _ (word : List ℕ) where
    -- a look-up by the key is one by the name
    pub named-lookup : (entries : List (Name × Action A)) → AreNamed entries → action_named word (entries_schema entries) ≡ option_map action_schema (lookup (λ (name : Name). is_same_word word (bytes_of_name name)) entries)
    unfolding action_named
    named-lookup [] named = refl
    named-lookup (e ∷ entries) named = search (rules, (named-lookup entries named.1))

    pub taken-lookup : (entries : List (Name × Action A)) → AreNamed entries → is_taken word (entries_schema entries) ≡ is_some (lookup (λ (name : Name). is_same_word word (bytes_of_name name)) entries)
    unfolding is_taken
    taken-lookup [] named = refl
    taken-lookup (e ∷ entries) named = search (rules, (taken-lookup entries named.1))

    -- what a look-up gives
    pub named-found : (entries : List (Name × Action A)) {actions : List ActionSchema} (found : Option (Bor (Action A))) → AreNamed entries → entries_schema entries ≡ actions
        → option_copied found ≡ lookup (λ (name : Name). is_same_word word (bytes_of_name name)) entries
        → MatchOption found (action_named word actions ≡ None) (λ action. action_named word actions ≡ Some (action_schema action.now))
    named-found entries found named same is = search (rules, named-lookup)

  -- a name that is not taken has no entry
  pub absent : (name : Name) (entries : List (Name × Action A)) {actions : List ActionSchema} → AreNamed entries → entries_schema entries ≡ actions → is_taken (bytes_of_name name) actions ≡ false
      → lookup (λ (other : Name). is_same_word (bytes_of_name name) (bytes_of_name other)) entries ≡ None
  absent name entries named same new = search (rules, taken-lookup)
