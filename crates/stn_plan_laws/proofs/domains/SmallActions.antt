-- Conditions and effects in small letters.
use Rattle.std.proofs.{Common.{rules, arith, ◌≡◌, ℕ, Bool, List, map, Option, Result, refl}, lemmas.List.map-append}
use Rattle.stn_text.specs.Faults.{◌>>=◌}
use Rattle.stn_pddl.specs.{Tree.{Names.folded, Trees.{Trees, End, Word, Group, how_many}}, declared.{fault.DomainFault.DomainFault, action.{Label.Label, Side.Side, Form.{Form, TheVariants.{Plain, Timed}}}, word.Head.Head}, Words.head_of, Atoms.{term, terms, atom, equality}, Schemas.{TermSchema, AtomSchema, ActionSchema, with_literal}, Conditions.{row, tree, equal_tree, literal, negated_tree, negated_first, negation, label_of, labelled}}
use Rattle.stn_plan_laws.{specs.{Tree.Case.{in_small, mapped}, Case.{term_in_small, atom_in_small, action_in_small}}, proofs.domains.SmallWords.{same_first, same_variable, same_key, same_position, same_head}}

-- one meaning after another, and a choice of two
pub mapped-then : {A B C D : Type 0} {f : A → C} (g : B → D) {other : Result C DomainFault} (one : Result A DomainFault) (after : C → Result D DomainFault) (next : A → Result B DomainFault)
    → other ≡ mapped f one → ((found : A) → after (f found) ≡ mapped g (next found)) → (other >>= after) ≡ mapped g (one >>= next)
mapped-then g one after next same rest = search rules

same_many : (row : Trees) → how_many (in_small row) ≡ how_many row
unfolding how_many in_small
same_many End = refl
same_many (Word line word next) = rw (same_many next) refl
same_many (Group line children next) = rw (same_many next) refl

small_term : (names : List (List ℕ)) (line : ℕ) (word : List ℕ) → term (map folded names) line (folded word) ≡ mapped term_in_small (term names line word)
unfolding term
small_term names line word = search (rules, same_variable, same_position, same_key)

small_terms : (names : List (List ℕ)) (rest : Trees) (before : List TermSchema)
    → terms (map folded names) (in_small rest) (map term_in_small before) ≡ mapped (map term_in_small) (terms names rest before)
unfolding terms in_small
small_terms names End before = refl
small_terms names (Word line word next) before = search (rules, small_term, map-append, (small_terms names next))
small_terms names (Group line children next) before = refl

small_literal : (label : Label) (negated : Bool) (found : AtomSchema) (a : ActionSchema)
    → with_literal label negated (atom_in_small found) (action_in_small a) ≡ action_in_small (with_literal label negated found a)
unfolding with_literal action_in_small
small_literal label negated found a = search (rules, map-append)

module _ (label : Label) (a : ActionSchema) where
  small_atom : (negated : Bool) (word : List ℕ) (rest : Trees) → atom label negated (folded word) (in_small rest) (action_in_small a) ≡ mapped action_in_small (atom label negated word rest a)
  unfolding atom action_in_small
  small_atom negated word rest = grind (arith, small_terms, small_literal)

  small_equal : (line : ℕ) (rest : Trees) → equal_tree label line (in_small rest) (action_in_small a) ≡ mapped action_in_small (equal_tree label line rest a)
  unfolding equality action_in_small
  small_equal line rest = grind (arith, same_many, small_terms)

  small_by_head : (negated : Bool) (line : ℕ) (word : List ℕ) (rest : Trees) (k : Head)
      → literal label negated line (folded word) (in_small rest) (action_in_small a) k ≡ mapped action_in_small (literal label negated line word rest a k)
  small_by_head negated line word rest k = search (rules, small_equal, small_atom)

  small_negated : (line : ℕ) (children : Trees) → negated_tree label line (in_small children) (action_in_small a) ≡ mapped action_in_small (negated_tree label line children a)
  unfolding negated_tree in_small
  small_negated line children = search (rules, same_head, small_by_head)

  small_first : (line : ℕ) (trees : Trees) → negated_first label line (in_small trees) (action_in_small a) ≡ mapped action_in_small (negated_first label line trees a)
  unfolding in_small
  small_first line trees = search (rules, small_negated)

  small_negation : (line : ℕ) (rest : Trees) → negation label line (in_small rest) (action_in_small a) ≡ mapped action_in_small (negation label line rest a)
  unfolding negation
  small_negation line rest = grind (arith, same_many, small_first)

small_label : (side : Side) (time : Head) (word : List ℕ) → label_of side time (folded word) ≡ label_of side time word
small_label side time word = search (rules, same_first)

-- a list by its head
module _ (line at : ℕ) (word : List ℕ) (rest : Trees) (a : ActionSchema) where
  small_plain : (label : Label) → row (Plain label) (in_small rest) (action_in_small a) ≡ mapped action_in_small (row (Plain label) rest a)
      → (k : Head) → head_of word ≡ k → tree (Plain label) line (in_small (Word at word rest)) (action_in_small a) ≡ mapped action_in_small (tree (Plain label) line (Word at word rest) a)
  unfolding tree in_small
  small_plain label all k e = search (rules, same_head, small_negation, small_equal, small_atom)

  small_timed : (side : Side) → row (Timed side) (in_small rest) (action_in_small a) ≡ mapped action_in_small (row (Timed side) rest a)
      → ((time : Head) → labelled side time line (in_small rest) (action_in_small a) ≡ mapped action_in_small (labelled side time line rest a))
      → (k : Head) → head_of word ≡ k → tree (Timed side) line (in_small (Word at word rest)) (action_in_small a) ≡ mapped action_in_small (tree (Timed side) line (Word at word rest) a)
  unfolding tree in_small
  small_timed side all behind k e = search (rules, same_head)

  small_one : (side : Side) (time : Head) → ((label : Label) → row (Plain label) (in_small rest) (action_in_small a) ≡ mapped action_in_small (row (Plain label) rest a))
      → (found : Option Label) → label_of side time word ≡ found
      → labelled side time line (in_small (Word at word rest)) (action_in_small a) ≡ mapped action_in_small (labelled side time line (Word at word rest) a)
  unfolding labelled in_small
  small_one side time all found e = search (rules, small_label, same_many)

mutual
  unfolding row tree labelled in_small

  small_row : (form : Form) (trees : Trees) (a : ActionSchema) → row form (in_small trees) (action_in_small a) ≡ mapped action_in_small (row form trees a)
  small_row form End a = refl
  small_row form (Word line word next) a = refl
  small_row form (Group line children next) a =
      mapped-then action_in_small (tree form line children a) (λ found. row form (in_small next) found) (λ found. row form next found)
      (small_list form line children a) (λ found. small_row form next found)

  pub small_list : (form : Form) (line : ℕ) (trees : Trees) (a : ActionSchema) → tree form line (in_small trees) (action_in_small a) ≡ mapped action_in_small (tree form line trees a)
  small_list form line End a = refl
  small_list form line (Group at children next) a = refl
  small_list (Plain label) line (Word at word rest) a = small_plain line at word rest a label (small_row (Plain label) rest a) (head_of word) refl
  small_list (Timed side) line (Word at word rest) a = small_timed line at word rest a side (small_row (Timed side) rest a) (λ time. small_labelled side time line rest a) (head_of word) refl

  small_labelled : (side : Side) (time : Head) (line : ℕ) (trees : Trees) (a : ActionSchema) → labelled side time line (in_small trees) (action_in_small a) ≡ mapped action_in_small (labelled side time line trees a)
  small_labelled side time line End a = refl
  small_labelled side time line (Group at children next) a = refl
  small_labelled side time line (Word at word rest) a = small_one line at word rest a side time (λ label. small_row (Plain label) rest a) (label_of side time word) refl
