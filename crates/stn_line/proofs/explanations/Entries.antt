-- The entries of all subjects.
use Rattle.std.{proofs.{lemmas.{Grind.common_steps, List.{append_assoc, map_more, take_all, Elements.{All-nil, All-cons, All-map, recursion_from_All}}, Bool.and_parts}, Common.{arith, rules, ◌+◌, true≢false, ◌≡◌, ◌≢◌, ◌∙◌, ◌<◌, ◌≤◌, ◌==◌, ◌++◌, Bool, true, false, ℕ, List, [], ◌∷◌, length, map, take, get_or, sym, ap, Option, Some, subst, All}}, specs.{Prelude.find, List.list_all, Str.bytes_eq}}
use Rattle.stn_text.specs.{Bytes.line_feed, Lines.is_word}
use Rattle.stn_refusal.specs.Codes.{number_of}
use Rattle.stn_line.{proofs.Values.find_each, specs.{Explanations.{Explained.{IsMeaning, AreMeanings, IsExplained, NamesNothing}, Subjects.{subjects, subject_word, word_of_fault}, Table.{IsInLines, IsTable, is_only_line, is_ended, says}}, declared.explanations.{subject.Subject.Subject, table.Entry.Entry}}}
use Rattle.stn_line.specs.declared.explanations.subject.Subject.TheVariants as subject

-- two subjects are one
abbrev is_same : Subject → Subject → Bool
is_same (subject.Refusal cause) (subject.Refusal other) = number_of cause == number_of other
is_same (subject.Fault cause) (subject.Fault other) = bytes_eq (word_of_fault cause) (word_of_fault other)
is_same one other = false

-- each is found among all
found : (s : Subject) → find (is_same s) subjects ≡ Some s
found s = search rules

at_each : (P : Subject → Type 0) → All P subjects → (s : Subject) → P s
at_each P all s = (find_each P (is_same s) subjects s (recursion_from_All P subjects all) (found s)).0

-- what holds of the subjects of the entries of all
all_named : (P : Subject → Type 0) (entries : List Entry) → map (λ entry. entry.subject) entries ≡ subjects → All (λ entry. P entry.subject) entries → All P subjects
all_named P entries are hold = subst (All P) are (All-map P (λ entry. entry.subject) entries hold)

alone : (text : List ℕ) (lines : List (List ℕ)) → is_only_line text lines ≡ true → lines ≡ text ∷ []
alone text lines is = search rules

is_some : (line : List ℕ) → is_word line ≡ true → line ≢ []
is_some line is none = cc

all_some : (lines : List (List ℕ)) → list_all is_word lines ≡ true → All (λ line. line ≢ []) lines
all_some lines is = grind (arith, common_steps)

ended : (text : List ℕ) → is_ended text ≡ true → (front : List ℕ) × (text ≡ front ++ line_feed ∷ [])
ended [] is = absurd (true≢false (sym is))
ended (byte ∷ []) is = search rules
ended (byte ∷ other ∷ rest) is = let more = ended (other ∷ rest) is in (byte ∷ more.0, ap (λ text. byte ∷ text) more.1)

said_entry : (entry : Entry) → says entry ≡ true → IsInLines entry
said_entry entry is = search (rules, alone, all_some, ended)

-- each of the entries says something
all_say : (entries : List Entry) → list_all says entries ≡ true → All IsInLines entries
all_say [] is = All-nil IsInLines
all_say (entry ∷ rest) is =
    let parts = and_parts (says entry) (list_all says rest) is in
    All-cons IsInLines entry rest (said_entry entry parts.0) (all_say rest parts.1)

pub all_entries : (entries : List Entry) → IsTable entries → All IsInLines entries
all_entries entries table = all_say entries table.said

-- a word that names the subject of no entry names nothing
pub names_nothing : (word : List ℕ) (entries : List Entry) → IsTable entries → All (λ entry. word ≢ subject_word entry.subject) entries → NamesNothing (Some word)
names_nothing word entries table none = at_each (λ subject. word ≢ subject_word subject) (all_named (λ subject. word ≢ subject_word subject) entries table.each none)

-- what explains a word is appended to a text
pub appended : (word : Option (List ℕ)) (text old between new : List ℕ) → IsExplained word text → between ≡ text → new ≡ old ++ between
    → (text : List ℕ) × IsExplained word text × (new ≡ old ++ text)
appended word text old between new is same grown = search rules

pub unnamed : (named : Bool) → named ≡ false → named ≡ true → ⊥
unnamed named not is = true≢false (sym is ∙ not)

more_meanings : (subjects : List Subject) (s : Subject) (text line : List ℕ) → AreMeanings subjects text → IsMeaning s line
    → AreMeanings (subjects ++ s ∷ []) (text ++ line)
more_meanings [] s text line none is = search rules
more_meanings (first ∷ rest) s text line are is =
    (are.0, are.1 ++ line, are.2, more_meanings rest s are.1 line are.3 is, ap (λ t. t ++ line) are.4 ∙ append_assoc are.0 are.1 line)

-- a text goes on with the lines of the first entries
pub record AppendsMeanings (entries : List Entry) (count : ℕ) (old new : List ℕ) : Type 0 where
  pub text : List ℕ
  pub lines : AreMeanings (map (λ entry. entry.subject) (take count entries)) text
  pub whole : new ≡ old ++ text

-- and then with that of the next
pub one_more : (entries : List Entry) (count : ℕ) (d : Entry) (old between new line : List ℕ) → count < length entries
    → AppendsMeanings entries count old between → IsMeaning (get_or entries count d).subject line → new ≡ between ++ line → AppendsMeanings entries (count + 1) old new
one_more entries count d old between new line within before meaning whole = grind (arith, common_steps, map_more, more_meanings)

-- with those of all, the text is whole
pub whole_list : (entries : List Entry) (count : ℕ) (old new : List ℕ) → length entries ≤ count → AppendsMeanings entries count old new
    → (text : List ℕ) × AreMeanings (map (λ entry. entry.subject) entries) text × (new ≡ old ++ text)
whole_list entries count old new all are = search (rules, take_all)
