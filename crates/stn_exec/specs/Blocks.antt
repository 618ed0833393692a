-- The blocks of a heading.
use Rattle.std.specs.{Prelude.{ℕ, ◌+◌, Bool, false, if◌then◌else◌, List, [], ◌∷◌, ◌++◌, codes, Option, Some, None}, Option.option_map, Str.bytes_eq}
use Rattle.stn_text.specs.Lines.{words_of}

-- the words are this one alone
abbrev pub is_alone : List ℕ → List (List ℕ) → Bool
is_alone name [] = false
is_alone name (word ∷ []) = bytes_eq word name
is_alone name (word ∷ (other ∷ words)) = false

-- a block of lines: its text, which is its lines, each with its LF; and what stands after the line that ends it: the number of the first
-- line there, and the lines
pub record Block : Type 0 where
  pub text : List ℕ
  pub number : ℕ
  pub behind : List (List ℕ)

-- a text in front of a block's own
abbrev pub with_text : List ℕ → Block → Block
with_text text block = record { text = text ++ block.text; number = block.number; behind = block.behind }

-- the text of a line, with its LF
abbrev pub line_text : List ℕ → List ℕ
line_text line = line ++ 10 ∷ []

-- the block that begins with the line of a number: it ends at the first line that is the one word `end`, if there is one
unfoldable pub block_from : ℕ → List (List ℕ) → Option Block
block_from number [] = None
block_from number (line ∷ lines) =
    if is_alone (codes "end") (words_of line) then Some (record { text = []; number = number + 1; behind = lines })
    else option_map (with_text (line_text line)) (block_from (number + 1) lines)
