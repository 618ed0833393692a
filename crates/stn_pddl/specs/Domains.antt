-- A domain: from a text to its actions, or to the first fault.
use Rattle.std.specs.Prelude.{ℕ, Bool, false, ◌&&◌, List, [], ◌∷◌, ◌++◌, Option, Result, Ok, Err, find, if◌then◌else◌, codes}
use Rattle.stn_pddl.specs.{declared.{tree.scan.TreeFault.TreeFault, fault.DomainFault.{DomainFault, TheVariants.{Syntax, Unsupported}}}, Tree.{Names.is_same_word, Trees.{Trees, End, Word, Group}, Scan.tree_of}, Faults.of_tree, Words.{is_name, section_of}, Schemas.ActionSchema, Actions.action}
use Rattle.stn_pddl.specs.declared.word.Section.TheVariants as section
use Rattle.stn_text.specs.Faults.{◌>>=◌}

-- one part of a domain, a list on a line, after the actions that stood before
unfoldable pub part : ℕ → Trees → List ActionSchema → Result (List ActionSchema) DomainFault
part line End before = Err (Syntax line)
part line (Group at children next) before = Err (Syntax line)
part line (Word at word rest) before = elim (section_of word) [
  | section.Skipped ↦ Ok before
  | section.Action ↦ (action line rest before >>= λ found. Ok (before ++ found ∷ []))
  | section.Unknown ↦ Err (Unsupported line)
  | section.NoSection ↦ Err (Syntax line)
]

unfoldable pub parts : Trees → List ActionSchema → Result (List ActionSchema) DomainFault
parts End before = Ok before
parts (Word line word next) before = Err (Syntax line)
parts (Group line children next) before = part line children before >>= λ found. parts next found

-- a list of exactly the words `domain` and a name
unfoldable pub is_title : Trees → Bool
is_title (Word a domain (Word b name End)) = is_same_word domain (codes "domain") && is_name name
is_title children = false

-- the list of a whole domain, on a line: `define`, the title, and the parts
unfoldable pub root : ℕ → Trees → Result (List ActionSchema) DomainFault
root line (Word a define (Group b title rest)) =
    if is_same_word define (codes "define") && is_title title then parts rest [] else Err (Syntax line)
root line children = Err (Syntax line)

-- a tree that is no list, as the bytes never give one, has no meaning
unfoldable pub domain_of_tree : Trees → Result (List ActionSchema) DomainFault
domain_of_tree End = Err (Syntax 1)
domain_of_tree (Word line word next) = Err (Syntax line)
domain_of_tree (Group line children next) = root line children

abbrev pub domain_of_bytes : Result Trees TreeFault → Result (List ActionSchema) DomainFault
domain_of_bytes (Ok tree) = domain_of_tree tree
domain_of_bytes (Err fault) = Err (of_tree fault)

-- the actions of a text in their order, or its first fault
unfoldable pub domain_of : List ℕ → Result (List ActionSchema) DomainFault
domain_of text = domain_of_bytes (tree_of text)

-- the action of a name, without regard to ASCII case
unfoldable pub action_named : List ℕ → List ActionSchema → Option ActionSchema
action_named name actions = find (λ action. is_same_word name action.name) actions

-- what a domain holds: its text, and what the text says
pub record DomainSchema : Type 0 where
  pub text : List ℕ
  pub actions : List ActionSchema
