-- What is said of a word that refuses a command.
use Rattle.std.specs.{Prelude.{ℕ, ◌==◌, nat_eq, bytes_eq, List, [], ◌∷◌, ◌++◌, codes, decimal, Option, Some, None, if◌then◌else◌}, List.starts_with}
use Rattle.stn_text.specs.Bytes.{line_feed}
use Rattle.stn_refusal.specs.{Codes.number_of, Refusals.code_of, declared.{failure.Failure.Failure, code.Code.TheVariants.{TooFine, OutOfRange}}}
use Rattle.stn_asked.specs.declared.words.{Form.Form, RefusedWord.RefusedWord}
use Rattle.stn_asked.specs.declared.words.Form.TheVariants as form

-- the events of a plan of so many steps; of any plan, where that is not known
abbrev pub events_text : Option ℕ → List ℕ
events_text None = codes "as z, s1, e1"
events_text (Some steps) = if steps == 0 then codes "z" else (if steps == 1
    then codes "z, s1, e1"
    else codes "z, s1 to s" ++ (decimal steps ++ (codes ", e1 to e" ++ decimal steps)))

-- what a word that should be an id is instead
abbrev pub id_reason : List ℕ → List ℕ
id_reason word = if starts_with nat_eq word (codes "plan.") then codes "a bound of the plan, which stays (records have ids, as 1.2)" else codes "not an id (as 1.2)"

-- what a word that spells no time is instead
abbrev pub untimely : List ℕ → List ℕ
untimely word = if bytes_eq word (codes "*") then codes "not a time (for an open side, leave out --lo or --hi)" else codes "not a time (seconds, as 5, 2.5 or 0.001)"

-- what a word that should be a time is instead
abbrev pub time_reason : List ℕ → Failure → List ℕ
time_reason word failure = by_code (code_of failure)
  where
    by_number : ℕ → List ℕ
    by_number code = if code == number_of TooFine then codes "finer than a millisecond (0.001)" else (if code == number_of OutOfRange
        then codes "more than a year from the origin (31536000 seconds)"
        else untimely word)

    by_code : Option ℕ → List ℕ
    by_code None = untimely word
    by_code (Some code) = by_number code

-- what the word is instead of what it should be
abbrev pub form_text : Option ℕ → List ℕ → Form → Failure → List ℕ
form_text steps word form.Event failure = codes "not an event (" ++ (events_text steps ++ codes ")")
form_text steps word form.Id failure = id_reason word
form_text steps word form.Time failure = time_reason word failure
form_text steps word form.Tolerance failure = codes "a tolerance below 0"
form_text steps word form.Steps failure = codes "not steps (as 2,4-6)"
form_text steps word form.Owned failure = codes "not a site and its steps (as 2:4-6), or a step that is given already"
form_text steps word form.YesNo failure = codes "neither yes nor no"

-- the line for a word: the word, and what it is instead
abbrev pub word_text : Option ℕ → RefusedWord → List ℕ
word_text steps refused = refused.word.now ++ (codes ": " ++ (form_text steps refused.word.now refused.form refused.failure ++ line_feed ∷ []))

-- the line for times of which there are too many or too few
abbrev pub times_count_text : ℕ → ℕ → List ℕ
times_count_text times events = decimal times ++ (codes " times for " ++ (decimal events ++ (codes " events" ++ line_feed ∷ [])))
