-- The text that a row of trees is written as.
use Rattle.std.specs.Prelude.{◌≡◌, ℕ, ◌-◌, ◌<◌, ◌≤◌, true, List, [], ◌∷◌, ◌++◌, length, replicate}
use Rattle.stn_text.specs.Bytes.{line_feed}
use Rattle.stn_pddl.specs.Tree.Trees.{Trees, End, Word, Group, begins_word, word_len}

-- the line that a row reaches which begins on a line
unfoldable pub end_line : ℕ → Trees → ℕ
end_line at End = at
end_line at (Word line word next) = end_line line next
end_line at (Group line children next) = end_line (end_line line children) next

-- from a line on, each tree on its own line: a word and a space, or a list in brackets
unfoldable pub written : ℕ → Trees → List ℕ
written at End = []
written at (Word line word next) = replicate (line - at) line_feed ++ (word ++ 32 ∷ written line next)
written at (Group line children next) =
    replicate (line - at) line_feed ++ (40 ∷ (written line children ++ (41 ∷ written (end_line line children) next)))

-- one byte of a word or more, and nothing else
abbrev pub IsWord : List ℕ → Type 0
IsWord word = (begins_word word ≡ true) × (word_len word ≡ length word)

-- a row from a line on in which lists may lie so deep: no tree stands on a line before that of an earlier one
unfoldable pub IsWritable : ℕ → ℕ → Trees → Type 0
IsWritable depth at End = Unit {0}
IsWritable depth at (Word line word next) = (at ≤ line) × IsWord word × IsWritable depth line next
IsWritable depth at (Group line children next) =
    (at ≤ line) × (0 < depth) × IsWritable (depth - 1) line children × IsWritable depth (end_line line children) next
