-- What the words of a command say, or the word that refuses it: the first that says nothing, in the order in which they are read.
use Rattle.std.specs.{Prelude.{ℕ, ℤ, neg_ℤ, pos, int_lt, Bool, true, false, bytes_eq, codes, if◌then◌else◌, List, [], ◌∷◌, option_map, Option, Some, None, Result, Ok, Err}, Borrow.Bor}
use Rattle.stn_time.specs.Time.{horizon}
use Rattle.stn_net.specs.Difference.{Difference}
use Rattle.stn_loosen.specs.Slack.{Slack}
use Rattle.stn_questions.specs.declared.{asked.Question.{Question, TheVariants.{Why as why, WhyApart as why_apart}}, words.Outlook.Outlook}
use Rattle.stn_command.specs.{Words.{and_then, each_read, event_of, id_of, named, time_read, no_such_word}, Query.{Query, check, foresee, ask, draw, seen_lone}, Steps.{steps_read, owned_too}}
use Rattle.stn_asked.specs.declared.{asked.{Update.Update as UpdateOfCode, Asked.Asked}, words.{Form.Form, RefusedWord.RefusedWord}}
use Rattle.stn_line.specs.declared.words.{DrawingWords.DrawingWords, EventChoice.EventChoice, SiteLog.SiteLog, NewLog.TheVariants.Loosen, LogChange.{LogChange, TheVariants.{Add, Amend, Withdraw, Done, Merge, Guard}}, LogQuestion.{LogQuestion, TheVariants.{Alone, Foresee, Why, Check, Draw}}, Line.{Line, TheVariants.{Make, Change, Ask}}}
use Rattle.stn_records.specs.Id.{SiteCounter}
use Rattle.stn_site.specs.declared.{change.Change.Change as ChangeOfPlan, own.{StepRange.StepRange, OwnedSteps.OwnedSteps}}
use Rattle.stn_site.specs.declared.change.Change.TheVariants as made
use Rattle.stn_refusal.specs.declared.failure.Failure.{Failure}
use Rattle.stn_asked.specs.declared.asked.Update.TheVariants as updating
use Rattle.stn_asked.specs.declared.asked.Asked.TheVariants as asking
use Rattle.stn_asked.specs.declared.words.Form.TheVariants as form

-- ---- what is asked for
-- what updates a log: a change, to take in all that another log says, or to add the guard of what it says
pub data Update : Type 0 where
  change : (asked : ChangeOfPlan) → Update
  merge : (other : List ℕ) → Update
  guard : (owned : List OwnedSteps) → Update

-- the same, as the code has it
abbrev pub seen_update : {A : Type 0} → UpdateOfCode A → Update
seen_update (updating.Change asked) = change asked
seen_update (updating.Merge other) = merge other.now
seen_update (updating.Guard owned) = guard owned.items

-- a query, as the code has read it
abbrev pub seen_asked : {A : Type 0} → Asked A → Query
seen_asked (asking.Alone query) = seen_lone query
seen_asked (asking.Foresee outlook now steps starts) = foresee outlook now (record { steps = option_map (λ all. all.items) steps; starts = starts })
seen_asked (asking.Check times) = check times.items
seen_asked (asking.Draw title present arrows owned) = draw (record { title = title.now; present = present; arrows = arrows; owned = owned.items })

-- ---- single words
-- what is read of a word, which should be of this form; or the word, which refuses the command
abbrev pub as_word : {X : Type 0} → Form → Bor (List ℕ) → Result X Failure → Result X RefusedWord
as_word form word (Ok value) = Ok value
as_word form word (Err failure) = Err (record { word = word; form = form; failure = failure })

abbrev pub event_read : Bor (List ℕ) → Result ℕ RefusedWord
event_read word = as_word form.Event word (named (event_of word.now))

abbrev pub id_read : Bor (List ℕ) → Result SiteCounter RefusedWord
id_read word = as_word form.Id word (named (id_of word.now))

abbrev pub moment_read : Bor (List ℕ) → Result ℤ RefusedWord
moment_read word = as_word form.Time word (time_read word.now)

abbrev pub chosen_read : Bor (List ℕ) → Result (List StepRange) RefusedWord
chosen_read word = as_word form.Steps word (steps_read word.now)

-- whether there are arrows: as a word says, and if there is none
abbrev pub arrows_read : Option (Bor (List ℕ)) → Result Bool RefusedWord
arrows_read None = Ok true
arrows_read (Some word) = if bytes_eq word.now (codes "yes") then Ok true else
    (if bytes_eq word.now (codes "no") then Ok false else as_word form.YesNo word (Err no_such_word))

-- what a word says, where it is given
abbrev pub given_read : {X : Type 0} → (Bor (List ℕ) → Result X RefusedWord) → Option (Bor (List ℕ)) → Result (Option X) RefusedWord
given_read read None = Ok None
given_read read (Some word) = and_then (read word) (λ value. Ok (Some value))

-- the time of a word; another one, where it is not given
abbrev pub moment_or : ℤ → Option (Bor (List ℕ)) → Result ℤ RefusedWord
moment_or other None = Ok other
moment_or other (Some word) = moment_read word

-- the bound of two events and two sides, which are open where they are not given
unfoldable pub bound_read : Bor (List ℕ) → Bor (List ℕ) → Option (Bor (List ℕ)) → Option (Bor (List ℕ)) → Result Difference RefusedWord
bound_read from to lo hi =
    and_then (event_read from) (λ first.
    and_then (event_read to) (λ second.
    and_then (moment_or (neg_ℤ horizon) lo) (λ least.
    and_then (moment_or horizon hi) (λ greatest.
    Ok (record { from = first; to = second; lo = least; hi = greatest })))))

-- the time of a word, which may not be below 0
abbrev pub not_below : Option (Bor (List ℕ)) → ℤ → Result ℤ RefusedWord
not_below None time = Ok time
not_below (Some word) time = if int_lt time (pos 0) then as_word form.Tolerance word (Err no_such_word) else Ok time

-- by how much durations may differ, by two times, each 0 where it is not given; then neither may be below 0
unfoldable pub slack_read : Option (Bor (List ℕ)) → Option (Bor (List ℕ)) → Result Slack RefusedWord
slack_read early late =
    and_then (moment_or (pos 0) early) (λ less.
    and_then (moment_or (pos 0) late) (λ more.
    and_then (not_below early less) (λ _.
    and_then (not_below late more) (λ _.
    Ok (record { early = less; late = more })))))

-- what is given to sites, and what words give then: no word names a step that is given already
abbrev pub owned_after : List OwnedSteps → List (Bor (List ℕ)) → Result (List OwnedSteps) RefusedWord
owned_after given [] = Ok given
owned_after given (word ∷ words) = and_then (as_word form.Owned word (owned_too given word.now)) (λ all. owned_after all words)

abbrev pub all_owned : List (Bor (List ℕ)) → Result (List OwnedSteps) RefusedWord
all_owned words = owned_after [] words

-- ---- the words of a command
abbrev pub update_read : LogChange → Result Update RefusedWord
update_read (Add from to lo hi) = and_then (bound_read from to lo hi) (λ bound. Ok (change (made.Add bound)))
update_read (Amend id from to lo hi) = and_then (id_read id) (λ old. and_then (bound_read from to lo hi) (λ bound. Ok (change (made.Amend old bound))))
update_read (Withdraw id) = and_then (id_read id) (λ which. Ok (change (made.Withdraw which)))
update_read (Done event time) = and_then (event_read event) (λ which. and_then (moment_read time) (λ when. Ok (change (made.Done which when))))
update_read (Merge other) = Ok (merge other.now)
update_read (Guard owned) = and_then (all_owned owned.items) (λ all. Ok (guard all))

-- the question why, about an event, or about two
abbrev pub why_read : Bor (List ℕ) → Option (Bor (List ℕ)) → Result Question RefusedWord
why_read event None = and_then (event_read event) (λ which. Ok (why which))
why_read from (Some to) = and_then (event_read from) (λ first. and_then (event_read to) (λ second. Ok (why_apart first second)))

-- what is asked of the chosen events from a time on
unfoldable pub among_read : Outlook → Bor (List ℕ) → EventChoice → Result Query RefusedWord
among_read outlook now choice =
    and_then (given_read chosen_read choice.steps) (λ steps.
    and_then (moment_read now) (λ time.
    Ok (foresee outlook time (record { steps = steps; starts = choice.starts }))))

-- how the plan of a log is drawn, with its name as the title: the steps of sites, then arrows, then the present
unfoldable pub drawing_read : SiteLog → DrawingWords → Result Query RefusedWord
drawing_read log drawing =
    and_then (all_owned drawing.owned.items) (λ all.
    and_then (arrows_read drawing.arrows) (λ are.
    and_then (given_read moment_read drawing.now) (λ time.
    Ok (draw (record { title = log.name.now; present = time; arrows = are; owned = all })))))

abbrev pub question_read : SiteLog → LogQuestion → Result Query RefusedWord
question_read log (Alone query) = Ok (seen_lone query)
question_read log (Foresee outlook now choice) = among_read outlook now choice
question_read log (Why event to) = and_then (why_read event to) (λ question. Ok (ask question))
question_read log (Check times) = and_then (each_read moment_read times.items) (λ all. Ok (check all))
question_read log (Draw drawing) = drawing_read log drawing

-- the word that refuses what is read, where one does
abbrev pub refused_by : {X : Type 0} → Result X RefusedWord → Option RefusedWord
refused_by (Ok value) = None
refused_by (Err refused) = Some refused

-- the word that refuses a command
abbrev pub word_refused : Line → Option RefusedWord
word_refused (Make log (Loosen domain plan early late robust)) = refused_by (slack_read early late)
word_refused (Change log made) = refused_by (update_read made)
word_refused (Ask log asked names) = refused_by (question_read log asked)
word_refused other = None
