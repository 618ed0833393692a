-- For proofs alone: no public clause cites these words.
-- What is said of all subjects.
use Rattle.std.specs.{Prelude.{◌≡◌, ◌==◌, ◌&&◌, ℕ, Bool, true, false, List, [], ◌∷◌, map}, List.list_all, Str.bytes_eq}
use Rattle.stn_text.specs.{Bytes.line_feed, Lines.{is_word, lines_of}}
use Rattle.stn_line.specs.{Explanations.{Explained.AreWholeLines, Subjects.subjects}, declared.explanations.table.Entry.Entry}

-- the meaning is one line, and what more is said is whole lines, none of them empty
pub record IsInLines (entry : Entry) : Type 0 where
  pub meaning : lines_of entry.meaning.now ≡ entry.meaning.now ∷ []
  pub more : AreWholeLines entry.more.now

-- the lines are the text alone
abbrev pub is_only_line : List ℕ → List (List ℕ) → Bool
is_only_line text [] = false
is_only_line text (line ∷ []) = bytes_eq line text
is_only_line text (line ∷ other ∷ rest) = false

-- the last byte is LF
abbrev pub is_ended : List ℕ → Bool
is_ended [] = false
is_ended (byte ∷ []) = byte == line_feed
is_ended (byte ∷ other ∷ rest) = is_ended (other ∷ rest)

abbrev pub says : Entry → Bool
says entry = is_only_line entry.meaning.now (lines_of entry.meaning.now) && (list_all is_word (lines_of entry.more.now) && is_ended entry.more.now)

-- an entry for each subject, in their order, and each says something
pub record IsTable (entries : List Entry) : Type 0 where
  pub each : map (λ entry. entry.subject) entries ≡ subjects
  pub said : list_all says entries ≡ true
