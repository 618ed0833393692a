-- Conditions and effects: trees with times, and the plain trees in them.
use Rattle.std.specs.Prelude.{ℕ, List, Bool, true, false, Option, Some, None, Result, Ok, Err, ◌==◌, if◌then◌else◌, codes}
use Rattle.stn_pddl.specs.{Tree.{Names.is_same_word, Trees.{Trees, End, Word, Group, how_many}}, declared.{fault.DomainFault.{DomainFault, TheVariants.{Syntax, Unsupported}}, action.{Label.{Label, TheVariants.{StartCondition, OverAll, EndCondition, StartEffect, EndEffect}}, Side.{Side, TheVariants.{Condition, Effect}}, Form.{Form, TheVariants.{Plain, Timed}}}, word.Head.Head}, Words.head_of, Schemas.ActionSchema, Atoms.{atom, equality}}
use Rattle.stn_pddl.specs.declared.word.Head.TheVariants as head
use Rattle.stn_text.specs.Faults.{◌>>=◌}

abbrev pub is_effect : Label → Bool
is_effect StartEffect = true
is_effect EndEffect = true
is_effect label = false

-- in effects an equality belongs to another logic
abbrev pub equal_tree : Label → ℕ → Trees → ActionSchema → Result ActionSchema DomainFault
equal_tree label line rest action = if is_effect label then Err (Unsupported line) else equality line rest action

-- an equality or an atom, negated or not, in a list on a line, by the list's head
abbrev pub literal : Label → Bool → ℕ → List ℕ → Trees → ActionSchema → Head → Result ActionSchema DomainFault
literal label negated line word rest action head.Equal = equal_tree label line rest action
literal label negated line word rest action head.NoName = Err (Syntax line)
literal label negated line word rest action head.At = atom label negated word rest action
literal label negated line word rest action head.Over = atom label negated word rest action
literal label negated line word rest action head.Name = atom label negated word rest action
literal label negated line word rest action other = Err (Unsupported line)

-- the list after `not`, on its own line
unfoldable pub negated_tree : Label → ℕ → Trees → ActionSchema → Result ActionSchema DomainFault
negated_tree label line End action = Err (Syntax line)
negated_tree label line (Group at children next) action = Err (Syntax line)
negated_tree label line (Word at word rest) action = literal label true line word rest action (head_of word)

-- the first tree of a row, negated: a list with a head
abbrev pub negated_first : Label → ℕ → Trees → ActionSchema → Result ActionSchema DomainFault
negated_first label line End action = Err (Syntax line)
negated_first label line (Word at word next) action = Err (Syntax at)
negated_first label line (Group at children next) action = negated_tree label at children action

-- after `not`, in a list on a line, stands exactly one tree
unfoldable pub negation : Label → ℕ → Trees → ActionSchema → Result ActionSchema DomainFault
negation label line rest action = if how_many rest == 1 then negated_first label line rest action else Err (Syntax line)

abbrev pub start_label : Side → Label
start_label Condition = StartCondition
start_label Effect = StartEffect

abbrev pub end_label : Side → Label
end_label Condition = EndCondition
end_label Effect = EndEffect

-- `at start`, `at end`, and in conditions `over all`
abbrev pub label_of : Side → Head → List ℕ → Option Label
label_of side head.At word =
    if is_same_word word (codes "start") then Some (start_label side)
    else (if is_same_word word (codes "end") then Some (end_label side) else None)
label_of Condition head.Over word = if is_same_word word (codes "all") then Some OverAll else None
label_of side other word = None

-- an equality where a time is due: in effects `=` is a word of another logic, in conditions it is syntax
abbrev pub equal_at : Side → ℕ → DomainFault
equal_at Condition line = Syntax line
equal_at Effect line = Unsupported line

unfoldable mutual
  -- a conjunction of the lists in a row: all their literals have one label, or each its time
  pub row : Form → Trees → ActionSchema → Result ActionSchema DomainFault
  row form End action = Ok action
  row form (Word line word next) action = Err (Syntax line)
  row form (Group line children next) action = tree form line children action >>= λ found. row form next found

  -- one list on a line, by its head: a literal, or a literal after its time, or a conjunction of such; `()` is nothing
  pub tree : Form → ℕ → Trees → ActionSchema → Result ActionSchema DomainFault
  tree form line End action = Ok action
  tree form line (Group at children next) action = Err (Syntax line)
  tree (Plain label) line (Word at word rest) action = elim (head_of word) [
    | head.And ↦ row (Plain label) rest action
    | head.Not ↦ negation label line rest action
    | other ↦ literal label false line word rest action other
  ]
  tree (Timed side) line (Word at word rest) action = elim (head_of word) [
    | head.And ↦ row (Timed side) rest action
    | head.At ↦ labelled side head.At line rest action
    | head.Over ↦ labelled side head.Over line rest action
    | head.OtherLogic ↦ Err (Unsupported line)
    | head.Equal ↦ Err (equal_at side line)
    | _ ↦ Err (Syntax line)
  ]

  -- after `at` or `over` stand the word that gives the label, and exactly one tree, which has it
  pub labelled : Side → Head → ℕ → Trees → ActionSchema → Result ActionSchema DomainFault
  labelled side time line End action = Err (Syntax line)
  labelled side time line (Group at children next) action = Err (Syntax line)
  labelled side time line (Word at word rest) action = elim (label_of side time word) [
    | None ↦ Err (Syntax line)
    | Some label ↦ (if how_many rest == 1 then row (Plain label) rest action else Err (Syntax line))
  ]
