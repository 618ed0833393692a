-- What is printed to explain something.
use Rattle.std.specs.Prelude.{◌≡◌, ◌≢◌, ◌⊎◌, ℕ, All, List, [], ◌∷◌, ◌++◌, codes, Option, Some, None}
use Rattle.stn_text.specs.{Bytes.line_feed, Lines.lines_of}
use Rattle.stn_line.specs.{Explanations.Subjects.{subject_word, subject_name, subjects}, declared.explanations.subject.Subject.Subject}

-- a line that begins with the subject's name and goes on with a few words on what it means: these are on one line, and
-- not none
pub record IsMeaning (subject : Subject) (text : List ℕ) : Type 0 where
  pub meaning : List ℕ
  pub line : lines_of meaning ≡ meaning ∷ []
  pub whole : text ≡ subject_name subject ++ (codes ": " ++ (meaning ++ line_feed ∷ []))

-- whole lines, none of them empty
pub record AreWholeLines (text : List ℕ) : Type 0 where
  pub each : All (λ line. line ≢ []) (lines_of text)
  pub ended : (front : List ℕ) × (text ≡ front ++ line_feed ∷ [])

-- such a line for each subject, in their order
abbrev pub AreMeanings : List Subject → List ℕ → Type 0
AreMeanings [] text = text ≡ []
AreMeanings (subject ∷ rest) text = (line : List ℕ) × (more : List ℕ) × IsMeaning subject line × AreMeanings rest more × (text ≡ line ++ more)

-- the line of a subject, and then lines with more on it
pub record IsExplanation (subject : Subject) (text : List ℕ) : Type 0 where
  pub line : List ℕ
  pub more : List ℕ
  pub begins : IsMeaning subject line
  pub lines : AreWholeLines more
  pub whole : text ≡ line ++ more

-- what is printed for a word: the explanation of the subject that it names; for no word, the lines of all subjects
abbrev pub IsExplained : Option (List ℕ) → List ℕ → Type 0
IsExplained None text = AreMeanings subjects text
IsExplained (Some word) text = (subject : Subject) × (word ≡ subject_word subject) × IsExplanation subject text

-- there is a word, and it names no subject
abbrev pub NamesNothing : Option (List ℕ) → Type 0
NamesNothing None = ⊥
NamesNothing (Some word) = (subject : Subject) → word ≢ subject_word subject

-- the line of the subject that a word names; nothing, where it names none
abbrev pub IsMeant : List ℕ → List ℕ → Type 0
IsMeant word text = ((subject : Subject) × (word ≡ subject_word subject) × IsMeaning subject text) ⊎ (NamesNothing (Some word) × (text ≡ []))
