-- Why a text is no domain, in the words of its parts.
use Rattle.std.specs.Prelude.{◌≡◌, ℕ, ◌<◌, ◌⊎◌, true, List, [], length, Ok, Err, codes}
use Rattle.stn_pddl.specs.declared.tree.scan.TreeFault.TheVariants as tree
use Rattle.stn_pddl.specs.{Tree.{Names.is_same_word, Trees.{Trees, End, Word, Group}, Scan.{most_text, tree_of}}, declared.fault.DomainFault.{DomainFault, TheVariants.{TooLong, Syntax, TooDeep, Memory}}, Schemas.ActionSchema, Domains.{part, parts, is_title}}

-- two rows, one after the other
unfoldable pub row_then : Trees → Trees → Trees
row_then End later = later
row_then (Word line word next) later = Word line word (row_then next later)
row_then (Group line children next) later = Group line children (row_then next later)

-- a row begins as a domain does, with `define` and the title, and these are its parts
pub record BeginsDomain (children rest : Trees) : Type 0 where
  pub first_line : ℕ
  pub define : List ℕ
  pub title_line : ℕ
  pub title : Trees
  pub whole : children ≡ Word first_line define (Group title_line title rest)
  pub is_define : is_same_word define (codes "define") ≡ true
  pub titled : is_title title ≡ true

-- the bytes of the text are one list, on this line
abbrev pub IsListAt : List ℕ → ℕ → Trees → Type 0
IsListAt text line children = tree_of text ≡ Ok (Group line children End)

-- the text is a list on this line that does not begin as a domain does
pub record IsOtherList (text : List ℕ) (line : ℕ) : Type 0 where
  pub children : Trees
  pub list : IsListAt text line children
  pub other : (rest : Trees) → BeginsDomain children rest → ⊥

-- the first part of a row has the fault by itself, after these actions; a word in its place is syntax
abbrev pub IsRefusedPart : Trees → List ActionSchema → DomainFault → Type 0
IsRefusedPart End before fault = ⊥
IsRefusedPart (Word line word next) before fault = fault ≡ Syntax line
IsRefusedPart (Group line children next) before fault = part line children before ≡ Err fault

-- one part of the domain has the fault by itself, after the actions of the parts before it, of which none has a fault
pub record IsFirstRefusedPart (text : List ℕ) (fault : DomainFault) : Type 0 where
  pub line : ℕ
  pub children : Trees
  pub list : IsListAt text line children
  pub rest : Trees
  pub domain : BeginsDomain children rest
  pub earlier : Trees
  pub later : Trees
  pub whole : rest ≡ row_then earlier later
  pub before : List ActionSchema
  pub none_before : parts earlier [] ≡ Ok before
  pub refused : IsRefusedPart later before fault

-- the cause that a fault has
abbrev pub IsDomainCause : List ℕ → DomainFault → Type 0
IsDomainCause text TooLong = most_text < length text
IsDomainCause text (Syntax line) = (tree_of text ≡ Err (tree.Syntax line)) ⊎ (IsOtherList text line ⊎ IsFirstRefusedPart text (Syntax line))
IsDomainCause text (TooDeep line) = tree_of text ≡ Err (tree.TooDeep line)
IsDomainCause text Memory = Unit {0}
IsDomainCause text fault = IsFirstRefusedPart text fault
