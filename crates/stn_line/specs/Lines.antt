-- What the words of a command line ask for, by what clap finds in them: a command, and the value of each of its words.
use Rattle.std.specs.{Prelude.{◌≡◌, ◌≢◌, ◌↔◌, ◌≤◌, ℕ, Bool, IsTrue, List, [], Option, Some, codes, map, option_map, unwrap_or, ⊤}, Borrow.Bor, Str.Parse.{digits_value, without_leading_plus}}
use Rattle.clap.specs.{Words.{IsAmong, Row, Text, all_of, fault_of, first_of, kind_of}, declared.error.kind.ErrorKind.TheVariants.OutOfMemory}
use Rattle.stn_questions.specs.Words.{lone_query, outlook_of}
use Rattle.stn_line.specs.{Commands.{most_connections, most_seconds, usual_seconds, stn}, declared.words.{SiteLog.SiteLog, EventChoice.EventChoice, NameWords.NameWords, NewLog.NewLog, LogChange.LogChange, LogQuestion.LogQuestion, Line.Line, LineFault.LineFault}}
use Rattle.stn_line.specs.declared.words.NewLog.TheVariants as new
use Rattle.stn_line.specs.declared.words.LogChange.TheVariants as change
use Rattle.stn_line.specs.declared.words.LogQuestion.TheVariants as question
use Rattle.stn_line.specs.declared.words.Line.TheVariants as line
use Rattle.stn_line.specs.declared.words.LineFault.TheVariants as fault

-- the value of the word with this name
abbrev pub IsWordValue : Text → Bor Text → List Row → Type 0
IsWordValue name word rows = first_of name rows ≡ Some word.now

-- the value of the option with this name, where it is given
abbrev pub IsOption : Text → Option (Bor Text) → List Row → Type 0
IsOption name word rows = first_of name rows ≡ option_map (λ w. w.now) word

-- whether the flag with this name is given: clap then takes its value to be `true`
abbrev pub IsFlag : Text → Bool → List Row → Type 0
IsFlag name given rows = IsTrue given ↔ (first_of name rows ≡ Some (codes "true"))

-- all values of the word with this name, none where it is not given
abbrev pub IsWords : Text → List (Bor Text) → List Row → Type 0
IsWords name words rows = unwrap_or (all_of name rows) [] ≡ map (λ word. word.now) words

-- the number whose decimal digits are the value of the word with this name
abbrev pub IsNumberValue : Text → ℕ → List Row → Type 0
IsNumberValue name number rows = option_map (λ word. digits_value 10 (without_leading_plus word)) (first_of name rows) ≡ Some number

-- the seconds that a session or an exchange may take: those that are given, else the usual ones
abbrev pub IsSeconds : ℕ → List Row → Type 0
IsSeconds seconds rows =
    seconds ≡ unwrap_or (option_map (λ word. digits_value 10 (without_leading_plus word)) (first_of (codes "seconds") rows)) usual_seconds

-- the log that a command is for, and its site
pub record IsOnLog (log : SiteLog) (rows : List Row) : Type 0 where
  pub file : IsWordValue (codes "LOG") log.name rows
  pub number : IsNumberValue (codes "SITE") log.site rows

-- the events that a command is about
pub record IsChoice (choice : EventChoice) (rows : List Row) : Type 0 where
  pub steps : IsOption (codes "steps") choice.steps rows
  pub starts : IsFlag (codes "starts") choice.starts rows

-- where the names of steps come from
pub record AreNames (names : NameWords) (rows : List Row) : Type 0 where
  pub plan : IsOption (codes "plan") names.plan rows
  pub own : IsFlag (codes "names") names.own rows

-- a command of this name makes such a log, with the values of its words
abbrev pub IsNewLogOf : NewLog → Text → List Row → Type 0
IsNewLogOf (new.Bare steps) name rows = (name ≡ codes "bare") × IsNumberValue (codes "STEPS") steps rows
IsNewLogOf (new.Init domain plan) name rows =
    (name ≡ codes "init") × IsWordValue (codes "DOMAIN") domain rows × IsWordValue (codes "PLAN") plan rows
IsNewLogOf (new.Loosen domain plan early late robust) name rows =
    (name ≡ codes "loosen") × IsWordValue (codes "DOMAIN") domain rows × IsWordValue (codes "PLAN") plan rows
    × IsOption (codes "early") early rows × IsOption (codes "late") late rows × IsFlag (codes "robust") robust rows

-- it makes such a change
abbrev pub IsChangeOf : LogChange → Text → List Row → Type 0
IsChangeOf (change.Add from to lo hi) name rows =
    (name ≡ codes "add") × IsWordValue (codes "FROM") from rows × IsWordValue (codes "TO") to rows
    × IsOption (codes "lo") lo rows × IsOption (codes "hi") hi rows
IsChangeOf (change.Amend id from to lo hi) name rows =
    (name ≡ codes "amend") × IsWordValue (codes "ID") id rows × IsWordValue (codes "FROM") from rows × IsWordValue (codes "TO") to rows
    × IsOption (codes "lo") lo rows × IsOption (codes "hi") hi rows
IsChangeOf (change.Withdraw id) name rows = (name ≡ codes "withdraw") × IsWordValue (codes "ID") id rows
IsChangeOf (change.Done event time) name rows =
    (name ≡ codes "done") × IsWordValue (codes "EVENT") event rows × IsWordValue (codes "TIME") time rows
IsChangeOf (change.Merge other) name rows = (name ≡ codes "merge") × IsWordValue (codes "OTHER") other rows
IsChangeOf (change.Guard owned) name rows = (name ≡ codes "guard") × IsWords (codes "own") owned.items rows

-- it asks such a question
abbrev pub IsQuestionOf : LogQuestion → Text → List Row → Type 0
IsQuestionOf (question.Alone asked) name rows = lone_query name ≡ Some asked
IsQuestionOf (question.Foresee outlook now choice) name rows = (outlook_of name ≡ Some outlook) × IsWordValue (codes "NOW") now rows × IsChoice choice rows
IsQuestionOf (question.Why event to) name rows = (name ≡ codes "why") × IsWordValue (codes "EVENT") event rows × IsOption (codes "TO") to rows
IsQuestionOf (question.Check times) name rows = (name ≡ codes "check") × IsWords (codes "TIME") times.items rows
IsQuestionOf (question.Draw drawing) name rows =
    (name ≡ codes "draw") × IsOption (codes "now") drawing.now rows × IsOption (codes "arrows") drawing.arrows rows
    × IsWords (codes "own") drawing.owned.items rows

-- the command line is one of the command of this name, with the values of its words
abbrev pub IsLineOf : Line → Text → List Row → Type 0
IsLineOf line.Run name rows = name ≡ codes "run"
IsLineOf (line.Make log made) name rows = IsOnLog log rows × IsNewLogOf made name rows
IsLineOf (line.Change log made) name rows = IsOnLog log rows × IsChangeOf made name rows
IsLineOf (line.Ask log asked names) name rows = IsOnLog log rows × IsQuestionOf asked name rows × AreNames names rows
IsLineOf (line.Explain code) name rows = (name ≡ codes "explain") × IsOption (codes "CODE") code rows
IsLineOf (line.Shell log) name rows = (name ≡ codes "shell") × IsOnLog log rows
IsLineOf (line.Serve log address count seconds) name rows =
    (name ≡ codes "serve") × IsOnLog log rows × IsWordValue (codes "ADDR") address rows
    × IsNumberValue (codes "COUNT") count rows × (1 ≤ count) × (count ≤ most_connections) × IsSeconds seconds rows
    × (1 ≤ seconds) × (seconds ≤ most_seconds)
IsLineOf (line.Send log address seconds) name rows =
    (name ≡ codes "send") × IsOnLog log rows × IsWordValue (codes "ADDR") address rows × IsSeconds seconds rows
    × (1 ≤ seconds) × (seconds ≤ most_seconds)

-- clap's own refusal of the words, of one of the kinds that it states for them; memory may run out at any words
abbrev pub IsWordsFault : LineFault → List Text → Type 0
IsWordsFault (fault.Words error) words = (kind_of error ≢ OutOfMemory) × IsAmong (kind_of error) (fault_of stn words)
IsWordsFault fault.Memory words = ⊤
