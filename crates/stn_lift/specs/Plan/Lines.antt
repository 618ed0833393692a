-- The lines of a text with their numbers.
use Rattle.std.specs.{Prelude.{ℕ, List}, List.enumerate_from}
use Rattle.stn_text.specs.Lines as text

-- numbered from a number on
unfoldable pub lines_from : ℕ → List ℕ → List (ℕ × List ℕ)
lines_from number bytes = enumerate_from number (text.lines_of bytes)

-- line 1 is the first
abbrev pub lines_of : List ℕ → List (ℕ × List ℕ)
lines_of bytes = lines_from 1 bytes
