-- The keys of an action and their values; what `:parameters` and `:duration` say.
use Rattle.std.specs.{Prelude.{ℕ, ◌&&◌, List, [], ◌∷◌, ◌++◌, Option, Some, None, is_some, Result, Ok, Err, ℤ, pos, int_lt, if◌then◌else◌, codes}, List.list_any}
use Rattle.stn_time.specs.{declared.reading.TimeFault.TimeFault, TimeOf.time_of}
use Rattle.stn_pddl.specs.{Tree.{Names.is_same_word, Trees.{Trees, End, Word, Group}}, declared.{fault.DomainFault.{DomainFault, TheVariants.{Syntax, Unsupported, Number, Twice}}, word.Field.Field}, Words.{item_of, key_of}}
use Rattle.stn_pddl.specs.declared.word.Item.TheVariants as item
use Rattle.stn_pddl.specs.declared.word.Field.TheVariants as field
use Rattle.stn_pddl.specs.declared.word.Key.TheVariants as key

-- Parameters from left to right, after those that stood before. After `-` one tree, the type, is skipped.
unfoldable mutual
  pub parameters : Trees → List (List ℕ) → Result (List (List ℕ)) DomainFault
  parameters End before = Ok before
  parameters (Group line children next) before = Err (Syntax line)
  parameters (Word line word next) before = elim (item_of word) [
    | item.Parameter ↦ (if list_any (is_same_word word) before then Err (Twice line) else parameters next (before ++ word ∷ []))
    | item.Dash ↦ parameters_behind_type line next before
    | item.Other ↦ Err (Syntax line)
  ]

  pub parameters_behind_type : ℕ → Trees → List (List ℕ) → Result (List (List ℕ)) DomainFault
  parameters_behind_type line End before = Err (Syntax line)
  parameters_behind_type line (Word at word next) before = parameters next before
  parameters_behind_type line (Group at children next) before = parameters next before

abbrev pub not_negative : ℕ → Result ℤ TimeFault → Result ℤ DomainFault
not_negative line (Ok millis) = if int_lt millis (pos 0) then Err (Number line) else Ok millis
not_negative line (Err fault) = Err (Number line)

-- a constant duration, a time text on a line
unfoldable pub constant : ℕ → List ℕ → Result ℤ DomainFault
constant line word = not_negative line (time_of word)

-- a list on a line: `=`, `?duration` and a constant
unfoldable pub duration : ℕ → Trees → Result ℤ DomainFault
duration line (Word a equal (Word b variable (Word at time End))) =
    if is_same_word equal (codes "=") && is_same_word variable (codes "?duration") then constant at time else Err (Unsupported line)
duration line children = Err (Unsupported line)

-- a list as a value: its line and its children
pub record Listing : Type 0 where
  pub line : ℕ
  pub children : Trees

-- the values of an action's keys
pub record Values : Type 0 where
  pub parameters : Option Listing
  pub duration : Option Listing
  pub condition : Option Listing
  pub effect : Option Listing

abbrev pub no_values : Values
no_values = record { parameters = None; duration = None; condition = None; effect = None }

abbrev pub value_of : Field → Values → Option Listing
value_of field.Parameters values = values.parameters
value_of field.Duration values = values.duration
value_of field.Condition values = values.condition
value_of field.Effect values = values.effect

abbrev pub with_value : Field → Listing → Values → Values
with_value field.Parameters listing values = record values { parameters = Some listing }
with_value field.Duration listing values = record values { duration = Some listing }
with_value field.Condition listing values = record values { condition = Some listing }
with_value field.Effect listing values = record values { effect = Some listing }

-- pairs of a key and a value, after those that stood before; a value is a list
unfoldable mutual
  pub fields : Trees → Values → Result Values DomainFault
  fields End before = Ok before
  fields (Group line children next) before = Err (Syntax line)
  fields (Word line word next) before = elim (key_of word) [
    | key.Known name ↦ (if is_some (value_of name before) then Err (Twice line) else field_value line name next before)
    | key.Unknown ↦ Err (Unsupported line)
    | key.NoKey ↦ Err (Syntax line)
  ]

  pub field_value : ℕ → Field → Trees → Values → Result Values DomainFault
  field_value line name End before = Err (Syntax line)
  field_value line name (Word at word next) before = Err (Syntax line)
  field_value line name (Group at children next) before = fields next (with_value name (record { line = at; children = children }) before)
