-- The trees of a text.
use Rattle.std.specs.Prelude.{ℕ, ◌+◌, Bool, true, false, List, [], ◌∷◌, if◌then◌else◌}
use Rattle.stn_pddl.specs.{declared.tree.bytes.Kind.{Kind, TheVariants.{Blank, Open, Close, Letter, Stray}}, Tree.Bytes.{kind_of, kind_in, comment_after, line_after}}

-- A row of trees: the first one and the row after it. A tree is a word or a list of trees, and stands on a line.
pub data Trees : Type 0 where
  End : Trees
  Word : (line : ℕ) (word : List ℕ) (next : Trees) → Trees
  Group : (line : ℕ) (children : Trees) (next : Trees) → Trees

unfoldable pub how_many : Trees → ℕ
how_many End = 0
how_many (Word line word next) = how_many next + 1
how_many (Group line children next) = how_many next + 1

-- What is still to come at a place of a text: the row that goes on there, and the rows around it, the inner ones first.
pub record Rows : Type 0 where
  pub row : Trees
  pub around : List Trees

-- beyond the outermost row there are only empty ones
abbrev pub innermost : List Trees → Trees
innermost [] = End
innermost (row ∷ rows) = row

abbrev pub outer : List Trees → List Trees
outer [] = []
outer (row ∷ rows) = rows

-- after the end of the row that goes on
abbrev pub behind_row : Rows → Rows
behind_row rows = record { row = innermost rows.around; around = outer rows.around }

abbrev pub before_open : ℕ → Rows → Rows
before_open line rows = record { row = Group line rows.row (innermost rows.around); around = outer rows.around }

abbrev pub before_close : Rows → Rows
before_close rows = record { row = End; around = rows.row ∷ rows.around }

-- the word that the row begins with, with one letter more at its front
abbrev pub with_letter : ℕ → Trees → Trees
with_letter b End = End
with_letter b (Word line word next) = Word line (b ∷ word) next
with_letter b (Group line children next) = Group line children next

-- a letter goes before the word that begins at the next byte, or is a word
abbrev pub before_letter : ℕ → ℕ → Bool → Rows → Rows
before_letter line b true rows = record { row = with_letter b rows.row; around = rows.around }
before_letter line b false rows = record { row = Word line (b ∷ []) rows.row; around = rows.around }

abbrev pub before_byte : Kind → ℕ → ℕ → Bool → Rows → Rows
before_byte Blank line b more rows = rows
before_byte Open line b more rows = before_open line rows
before_byte Close line b more rows = before_close rows
before_byte Letter line b more rows = before_letter line b more rows
before_byte Stray line b more rows = rows

abbrev pub is_letter : Kind → Bool
is_letter Letter = true
is_letter kind = false

unfoldable pub begins_word : List ℕ → Bool
begins_word [] = false
begins_word (b ∷ bytes) = is_letter (kind_of b)

-- how many bytes the word at the front has
unfoldable pub word_len : List ℕ → ℕ
word_len [] = 0
word_len (b ∷ bytes) = if is_letter (kind_of b) then word_len bytes + 1 else 0

-- The rows that are still to come before these bytes, in a comment or outside, on a line. Lists that are open at the end end there.
unfoldable pub rows_from : Bool → ℕ → List ℕ → Rows
rows_from comment line [] = record { row = End; around = [] }
rows_from comment line (b ∷ bytes) =
    before_byte (kind_in comment b) line b (begins_word bytes) (rows_from (comment_after comment b) (line_after line b) bytes)
