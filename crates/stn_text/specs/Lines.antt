-- A text by lines and words.
use Rattle.std.specs.{Prelude.{◌≡◌, ◌⊎◌, ℕ, Bool, true, false, ◌||◌, ◌==◌, List, [], ◌∷◌, ◌++◌, filter}, List.slice_split}
use Rattle.stn_text.specs.Bytes.{line_feed}

-- the byte LF
abbrev pub is_line_end : ℕ → Bool
is_line_end byte = byte == line_feed

-- a space, a tab or the byte CR
abbrev pub is_gap : ℕ → Bool
is_gap byte = (byte == 32) || ((byte == 9) || (byte == 13))

-- the parts, but for an empty last one
abbrev pub without_empty_last : List (List ℕ) → List (List ℕ)
without_empty_last [] = []
without_empty_last ([] ∷ []) = []
without_empty_last (part ∷ parts) = part ∷ without_empty_last parts

-- the lines of a text, each without its LF, which the last may lack
unfoldable pub lines_of : List ℕ → List (List ℕ)
lines_of text = without_empty_last (slice_split is_line_end text)

-- byte for byte the text is a line, the LF after it, and the rest; or the line alone
abbrev pub IsCutBehindLine : List ℕ → List ℕ → List ℕ → Type 0
IsCutBehindLine text line rest = (text ≡ line ++ line_feed ∷ rest) ⊎ ((text ≡ line) × (rest ≡ []))

-- the part has a byte
abbrev pub is_word : List ℕ → Bool
is_word [] = false
is_word (byte ∷ bytes) = true

-- the words of a line
unfoldable pub words_of : List ℕ → List (List ℕ)
words_of line = filter is_word (slice_split is_gap line)

-- the line begins with a byte that parts words
abbrev pub begins_with_gap : List ℕ → Bool
begins_with_gap [] = false
begins_with_gap (byte ∷ bytes) = is_gap byte
