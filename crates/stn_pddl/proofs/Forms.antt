-- What the forms of a domain give: a sound value, or a fault of the forms.
use Rattle.std.{proofs.{Common.{rules, ◌≡◌, ℕ, Bool, true, false, cond, ◌==◌, List, [], ◌∷◌, ◌++◌, length, Option, Result, Ok, Err, refl, ℤ, pos, ◌≤ℤ◌}, lemmas.{Int.ints, Result.MatchResult-weaker}}, specs.{List.AllByRecursion, Result.MatchResult}}
use Rattle.stn_time.{proofs.Each.each_pushed}
use Rattle.stn_text.{specs.Faults.{◌>>=◌}, proofs.Readings.{both_give, either_gives}}
use Rattle.stn_pddl.specs.{Tree.{Trees.{Trees, End, Word, Group, how_many}}, declared.{fault.DomainFault.{DomainFault, TheVariants.{TooLong, Syntax, TooDeep, Twice, Memory}}, action.{Label.{Label}, Side.{Side, TheVariants.{Condition, Effect}}, Form.{Form, TheVariants.{Plain, Timed}}}, word.{Head.Head, Item.Item, Field.Field, Key.Key, Section.Section}}, Words.{is_name, head_of, item_of, key_of, section_of}, Atoms.{term, terms, atom, equality}, Sound.{IsSoundTerm, IsSoundAtom, HasSoundAtoms, IsSound}, Schemas.{TermSchema, AtomSchema, ActionSchema, bare_action, with_literal}, Conditions.{row, tree, literal, negated_tree, negation, label_of, labelled}, Fields.{Listing, Values, no_values, parameters, parameters_behind_type, constant, duration, with_value, fields, field_value}, Actions.{timed_value, action_of_lists, action_of_values, named_action, is_taken, action}, Domains.{part, parts, root, domain_of_tree}}
use Rattle.stn_pddl.specs.declared.word.Head.TheVariants as head
use Rattle.stn_pddl.specs.declared.word.Section.TheVariants as section

-- a fault of the forms: the text is not too long, its brackets are not too deep, and there is memory
abbrev pub IsFormFault : DomainFault → Type 0
IsFormFault TooLong = ⊥
IsFormFault (TooDeep line) = ⊥
IsFormFault Memory = ⊥
IsFormFault other = Unit {0}

-- such a value, or a fault of the forms
abbrev pub OfForms : {A : Type 0} → (A → Type 0) → Result A DomainFault → Type 0
OfForms Is read = MatchResult read Is IsFormFault

-- the action after has the name, the parameters and the duration of the one before, and sound atoms where that has them
record Keeps (before after : ActionSchema) : Type 0 where
  name : after.name ≡ before.name
  parameters : after.parameters ≡ before.parameters
  duration : after.duration ≡ before.duration
  atoms : HasSoundAtoms before → HasSoundAtoms after

same : {a : ActionSchema} → Keeps a a
same = search rules

-- one change of an action, and then another
keeps_both : (a : ActionSchema) (first : Result ActionSchema DomainFault) (next : ActionSchema → Result ActionSchema DomainFault)
    → OfForms (Keeps a) first → ((b : ActionSchema) → OfForms (Keeps b) (next b)) → OfForms (Keeps a) (first >>= next)
keeps_both a first next one other = search rules

-- terms and atoms
term_given : (names : List (List ℕ)) (line : ℕ) (word : List ℕ) → OfForms (IsSoundTerm (length names)) (term names line word)
unfolding term
term_given names line word = search rules

terms_given : (names : List (List ℕ)) (rest : Trees) (before : List TermSchema) → AllByRecursion (IsSoundTerm (length names)) before
    → OfForms (AllByRecursion (IsSoundTerm (length names))) (terms names rest before)
unfolding terms
terms_given names End before all = all
terms_given names (Word line word next) before all =
    both_give _ _ _ _ (λ found. terms names next (before ++ found ∷ []))
    (term_given names line word) (λ found sound. terms_given names next (before ++ found ∷ []) (each_pushed (IsSoundTerm (length names)) before found all sound))
terms_given names (Group line children next) before all = tt

literal_keeps : (label : Label) (negated : Bool) (found : AtomSchema) (a : ActionSchema) → IsSoundAtom (length a.parameters) found → Keeps a (with_literal label negated found a)
unfolding with_literal
literal_keeps label negated found a p = search (rules, each_pushed)

module _ (label : Label) (a : ActionSchema) where
  atom_given : (negated : Bool) (word : List ℕ) (rest : Trees) → OfForms (Keeps a) (atom label negated word rest a)
  unfolding atom
  atom_given negated word rest =
      both_give (AllByRecursion (IsSoundTerm (length a.parameters))) (Keeps a) IsFormFault (terms a.parameters rest []) (λ found. Ok (with_literal label negated (record { predicate = word; terms = found }) a))
      (terms_given a.parameters rest [] tt) (λ found sound. literal_keeps label _ _ a sound)

  equality_given : (line : ℕ) (rest : Trees) → OfForms (Keeps a) (equality line rest a)
  unfolding equality
  equality_given line rest =
      either_gives (Keeps a) IsFormFault (how_many rest == 2) (terms a.parameters rest [] >>= λ found. Ok a) (Err (Syntax line))
      (both_give (AllByRecursion (IsSoundTerm (length a.parameters))) (Keeps a) IsFormFault (terms a.parameters rest []) (λ found. Ok a) (terms_given _ rest [] tt) (λ found sound. same)) tt

  literal_given : (negated : Bool) (line : ℕ) (word : List ℕ) (rest : Trees) (k : Head) → OfForms (Keeps a) (literal label negated line word rest a k)
  literal_given negated line word rest k = search (rules, equality_given, atom_given)

  negated_given : (line : ℕ) (children : Trees) → OfForms (Keeps a) (negated_tree label line children a)
  unfolding negated_tree
  negated_given line children = search (rules, literal_given)

  negation_given : (line : ℕ) (rest : Trees) → OfForms (Keeps a) (negation label line rest a)
  unfolding negation
  negation_given line rest = search (rules, negated_given)

-- conjunctions
module _ (line at : ℕ) (word : List ℕ) (rest : Trees) (a : ActionSchema) where
  plain_given : (label : Label) → OfForms (Keeps a) (row (Plain label) rest a) → (k : Head) → head_of word ≡ k → OfForms (Keeps a) (tree (Plain label) line (Word at word rest) a)
  unfolding tree
  plain_given label all head.And e = rw (e, tree) all
  plain_given label all head.Not e = search (rules, negation_given)
  plain_given label all head.Equal e = rw (e, tree) (literal_given label a false line word rest head.Equal)
  plain_given label all head.At e = search (rules, atom_given)
  plain_given label all head.Over e = search (rules, atom_given)
  plain_given label all head.Name e = search (rules, atom_given)
  plain_given label all other e = rw (e, tree) tt

  timed_given : (side : Side) → OfForms (Keeps a) (row (Timed side) rest a) → ((time : Head) → OfForms (Keeps a) (labelled side time line rest a))
      → (k : Head) → head_of word ≡ k → OfForms (Keeps a) (tree (Timed side) line (Word at word rest) a)
  unfolding tree
  timed_given side all behind k e = search rules

  label_given : (side : Side) (time : Head) → ((label : Label) → OfForms (Keeps a) (row (Plain label) rest a)) → (found : Option Label) → label_of side time word ≡ found
      → OfForms (Keeps a) (labelled side time line (Word at word rest) a)
  unfolding labelled
  label_given side time all found e = search (rules)

mutual
  unfolding row tree labelled

  row_given : (form : Form) (trees : Trees) (a : ActionSchema) → OfForms (Keeps a) (row form trees a)
  row_given form End a = same
  row_given form (Word line word next) a = tt
  row_given form (Group line children next) a = keeps_both a (tree form line children a) (λ found. row form next found) (tree_given form line children a) (λ found. row_given form next found)

  tree_given : (form : Form) (line : ℕ) (trees : Trees) (a : ActionSchema) → OfForms (Keeps a) (tree form line trees a)
  tree_given form line End a = same
  tree_given form line (Group at children next) a = tt
  tree_given (Plain label) line (Word at word rest) a = plain_given line at word rest a label (row_given (Plain label) rest a) (head_of word) refl
  tree_given (Timed side) line (Word at word rest) a = timed_given line at word rest a side (row_given (Timed side) rest a) (λ time. labelled_given side time line rest a) (head_of word) refl

  labelled_given : (side : Side) (time : Head) (line : ℕ) (trees : Trees) (a : ActionSchema) → OfForms (Keeps a) (labelled side time line trees a)
  labelled_given side time line End a = tt
  labelled_given side time line (Group at children next) a = tt
  labelled_given side time line (Word at word rest) a = label_given line at word rest a side time (λ label. row_given (Plain label) rest a) (label_of side time word) refl

-- parameters
module _ (line : ℕ) (word : List ℕ) (next : Trees) (before : List (List ℕ)) where
  parameter_given : ((names : List (List ℕ)) → OfForms (λ _. Unit {0}) (parameters next names)) → OfForms (λ _. Unit {0}) (parameters_behind_type line next before)
      → (k : Item) → item_of word ≡ k → OfForms (λ _. Unit {0}) (parameters (Word line word next) before)
  unfolding parameters
  parameter_given more typed k e = search rules

mutual
  unfolding parameters parameters_behind_type

  parameters_given : (trees : Trees) (before : List (List ℕ)) → OfForms (λ _. Unit {0}) (parameters trees before)
  parameters_given End before = tt
  parameters_given (Group line children next) before = tt
  parameters_given (Word line word next) before = parameter_given line word next before (λ names. parameters_given next names) (typed_given line next before) (item_of word) refl

  typed_given : (line : ℕ) (trees : Trees) (before : List (List ℕ)) → OfForms (λ _. Unit {0}) (parameters_behind_type line trees before)
  typed_given line End before = tt
  typed_given line (Word at word next) before = parameters_given next before
  typed_given line (Group at children next) before = parameters_given next before

-- a duration is not negative
duration_given : (line : ℕ) (children : Trees) → OfForms (λ millis. pos 0 ≤ℤ millis) (duration line children)
unfolding duration constant
duration_given line children = search (rules, ints)

-- the values of the keys
module _ (line : ℕ) (word : List ℕ) (next : Trees) (before : Values) where
  key_given : ((name : Field) → OfForms (λ _. Unit {0}) (field_value line name next before)) → (k : Key) → key_of word ≡ k → OfForms (λ _. Unit {0}) (fields (Word line word next) before)
  unfolding fields
  key_given more k e = search (rules)

mutual
  unfolding fields field_value

  fields_given : (trees : Trees) (before : Values) → OfForms (λ _. Unit {0}) (fields trees before)
  fields_given End before = tt
  fields_given (Group line children next) before = tt
  fields_given (Word line word next) before = key_given line word next before (λ name. field_given line name next before) (key_of word) refl

  field_given : (line : ℕ) (name : Field) (trees : Trees) (before : Values) → OfForms (λ _. Unit {0}) (field_value line name trees before)
  field_given line name End before = tt
  field_given line name (Word at word next) before = tt
  field_given line name (Group at children next) before = fields_given next (with_value name (record { line = at; children = children }) before)

value_given : (side : Side) (value : Option Listing) (a : ActionSchema) → OfForms (Keeps a) (timed_value side value a)
unfolding timed_value
value_given side value a = search (rules, tree_given)

-- An action has the name that it was read with, and is sound.
pub record IsMade (name : List ℕ) (action : ActionSchema) : Type 0 where
  pub named : action.name ≡ name
  pub sound : IsSound action

made_of : {name : List ℕ} {names : List (List ℕ)} {millis : ℤ} {b : ActionSchema} → pos 0 ≤ℤ millis → Keeps (bare_action name names millis) b → IsMade name b
made_of positive kept = search rules

lists_given : (name : List ℕ) (listed timed : Listing) (values : Values) → OfForms (IsMade name) (action_of_lists name listed timed values)
unfolding action_of_lists
lists_given name listed timed values =
    both_give (λ _. Unit {0}) (IsMade name) IsFormFault (parameters listed.children [])
    (λ names. duration timed.line timed.children >>= λ millis. timed_value Condition values.condition (bare_action name names millis) >>= λ action. timed_value Effect values.effect action)
    (parameters_given listed.children [])
    (λ names _. both_give (λ millis. pos 0 ≤ℤ millis) (IsMade name) IsFormFault (duration timed.line timed.children)
    (λ millis. timed_value Condition values.condition (bare_action name names millis) >>= λ action. timed_value Effect values.effect action)
    (duration_given timed.line timed.children)
    (λ millis positive. MatchResult-weaker (timed_value Condition values.condition (bare_action name names millis) >>= λ action. timed_value Effect values.effect action)
    (keeps_both _ _ (λ action. timed_value Effect values.effect action)
    (value_given Condition values.condition (bare_action name names millis)) (λ action. value_given Effect values.effect action))
    (λ b kept. made_of positive kept) (λ fault is. is)))

values_given : (line : ℕ) (name : List ℕ) (values : Values) (listed timed : Option Listing) → OfForms (IsMade name) (action_of_values line name values listed timed)
values_given line name values listed timed = search (rules, lists_given)

pub named_given : (line : ℕ) (name : List ℕ) (rest : Trees) → OfForms (IsMade name) (named_action line name rest)
unfolding named_action
named_given line name rest =
    both_give (λ _. Unit {0}) _ _ _ (λ values. action_of_values line name values values.parameters values.duration)
    (fields_given rest no_values) (λ values _. values_given line name values values.parameters values.duration)

action_given : (line : ℕ) (rest : Trees) (earlier : List ActionSchema) → OfForms IsSound (action line rest earlier)
unfolding action
action_given line End earlier = tt
action_given line (Group at children next) earlier = tt
action_given line (Word at name rest) earlier = by (is_name name) (is_taken name earlier)
  where
    by : (named taken : Bool) → OfForms IsSound (cond named (cond taken (Err (Twice at)) (named_action line name rest)) (Err (Syntax line)))
    by true true = tt
    by true false = MatchResult-weaker (named_action line name rest) (named_given line name rest) (λ b made. made.sound) (λ fault is. is)
    by false taken = tt

part_given : (line : ℕ) (children : Trees) (before : List ActionSchema) → AllByRecursion IsSound before → OfForms (AllByRecursion IsSound) (part line children before)
unfolding part
part_given line End before all = tt
part_given line (Group at children next) before all = tt
part_given line (Word at word rest) before all = by (section_of word) refl
  where
    by : (k : Section) → section_of word ≡ k → OfForms (AllByRecursion IsSound) (part line (Word at word rest) before)
    by section.Skipped e = rw (e, part) all
    by section.Action e = rw (e, part) (both_give IsSound (AllByRecursion IsSound) IsFormFault (action line rest before) (λ found. Ok (before ++ found ∷ [])) (action_given line rest before) (λ found sound. each_pushed _ _ found all sound))
    by other e = rw (e, part) tt

parts_given : (trees : Trees) (before : List ActionSchema) → AllByRecursion IsSound before → OfForms (AllByRecursion IsSound) (parts trees before)
unfolding parts
parts_given End before all = all
parts_given (Word line word next) before all = tt
parts_given (Group line children next) before all =
    both_give _ _ _ _ (λ found. parts next found) (part_given line children before all) (λ found sound. parts_given next found sound)

-- the parts of a domain, from the first one on
pub all_parts_given : (rest : Trees) → OfForms (AllByRecursion IsSound) (parts rest [])
all_parts_given rest = parts_given rest [] tt

pub domain_given : (trees : Trees) → OfForms (AllByRecursion IsSound) (domain_of_tree trees)
unfolding domain_of_tree root
domain_given trees = search (rules, all_parts_given)
