-- Why a command ends without an answer, as it is told after the line that says so.
use Rattle.std.specs.{Prelude.{◌≡◌, ◌⊎◌, ℕ, ◌*◌, ◌-◌, ◌==◌, ◌&&◌, nat_le, bytes_eq, Bool, List, [], ◌∷◌, ◌++◌, codes, decimal, length, take, Option, Some, None, option_map, if◌then◌else◌, ⊤}, String.string_bytes, Option.{option_or, unwrap_or}}
use Rattle.stn_cause.specs.Cause.{trouble_text}
use Rattle.stn_cause.specs.declared.cause.Cause.TheVariants as cause
use Rattle.stn_text.specs.Bytes.{line_feed}
use Rattle.stn_lift.specs.PlanSource.{PlanSource, steps_of}
use Rattle.stn_site.specs.Held.{Held}
use Rattle.stn_line.specs.{Explanations.Explained.IsMeant, declared.words.{SiteLog.SiteLog, NewLog.TheVariants.{Bare, Init, Loosen}, LogChange.TheVariants.Merge, LogQuestion.TheVariants.Check, Line.{Line, TheVariants.{Run, Make, Change, Ask, Explain, Shell, Serve, Send}}}}
use Rattle.stn_refusal.specs.{Codes.number_of, declared.{failure.{Failure.{Failure, TheVariants.{Refused, Failed}}, Fault.Fault}, refusal.{Place.{Place, TheVariants.Number}, Refusal.Refusal}}}
use Rattle.stn_refusal.specs.declared.code.Code.TheVariants as code
use Rattle.stn_refusal.specs.declared.failure.Fault.TheVariants as fault
use Rattle.stn_asked.specs.{Words.{slack_read, word_refused}, declared.words.RefusedWord.RefusedWord}
use Rattle.stn_reasons.specs.{Loosening.SaysFragile, Absent.absent_event, Flags.{flag_text, names_count_text, names_file, names_refused, steps_flag}, Told.{events_text, times_count_text, word_text}}
use Rattle.stn_store.specs.{Steps.Entries, Store.{IsUnopened, Opens}, declared.trouble.Trouble.Trouble}

-- ---- what a refusal is about
-- the log of a command
abbrev pub log_of : Line → Option SiteLog
log_of Run = None
log_of (Make log made) = Some log
log_of (Change log made) = Some log
log_of (Ask log asked names) = Some log
log_of (Explain code) = None
log_of (Shell log) = Some log
log_of (Serve log address count seconds) = Some log
log_of (Send log address seconds) = Some log

-- the other log of `merge`
abbrev pub other_of : Line → Option (List ℕ)
other_of (Change log (Merge other)) = Some other.now
other_of line = None

-- how many times `check` is given
abbrev pub times_given : Line → Option ℕ
times_given (Ask log (Check times) names) = Some (length times.items)
times_given line = None

-- the plan of a command's log is made from this
abbrev pub HasPlan : Entries → Line → PlanSource → Type 0
HasPlan entries line source = (log : SiteLog) × (held : Held) × (log_of line ≡ Some log) × Opens entries log.name.now log.site held × (held.source ≡ source)

-- it has so many steps; None where that is not known
abbrev pub HasSteps : Entries → Line → Option ℕ → Type 0
HasSteps entries line None = ⊤
HasSteps entries line (Some steps) = (source : PlanSource) × HasPlan entries line source × (steps_of source ≡ steps)

-- the text of a domain is refused by these numbers, that of a plan by those
abbrev pub refuses_domain : ℕ → Bool
refuses_domain number = nat_le (number_of code.DomainTooLong) number && nat_le number (number_of code.DomainVariable)

abbrev pub refuses_plan : ℕ → Bool
refuses_plan number = nat_le (number_of code.PlanTooLong) number && nat_le number (number_of code.PastHorizon)

-- the file that a refusal of a number is about, where the number alone says so: DOMAIN, PLAN, or LOG, where there is one
abbrev pub text_refused : List ℕ → List ℕ → List ℕ → ℕ → Option (List ℕ)
text_refused log domain plan number = if refuses_domain number then Some domain else (if refuses_plan number then Some plan else (if number == number_of code.LogThere then Some log else None))

abbrev pub file_refused : Line → ℕ → Option (List ℕ)
file_refused (Make log (Bare steps)) number = if number == number_of code.LogThere then Some log.name.now else None
file_refused (Make log (Init domain plan)) number = text_refused log.name.now domain.now plan.now number
file_refused (Make log (Loosen domain plan early late robust)) number = text_refused log.name.now domain.now plan.now number
file_refused (Change log (Merge other)) number = if number == number_of code.OtherPlan then Some other.now else None
file_refused line number = None

-- ---- what is told of it
-- a plan is refused by these numbers for a step, and a text for a line
abbrev pub place_word : ℕ → List ℕ
place_word number = if nat_le (number_of code.UnknownAction) number then codes ", step " else codes ", line "

-- the place of a refusal in a file
abbrev pub place_by : ℕ → Place → List ℕ
place_by code (Number number) = place_word code ++ decimal number
place_by code other = []

abbrev pub place_words : Refusal → List ℕ
place_words refusal = place_by refusal.code refusal.place

-- the line that names a file and the place in it
abbrev pub file_text : List ℕ → Refusal → List ℕ
file_text name refusal = codes "see " ++ (name ++ (place_words refusal ++ line_feed ∷ []))

-- what is said of a word that is no event of the plan
abbrev pub no_event_of : Option ℕ → List ℕ
no_event_of steps = codes ": not an event of the plan (" ++ (events_text steps ++ (codes ")" ++ line_feed ∷ []))

-- the line for an event that the plan lacks
abbrev pub missing_text : Option ℕ → List ℕ → List ℕ
missing_text steps word = word ++ no_event_of steps

-- the same, or the line for the origin, which never takes place
abbrev pub absent_text : ℕ → List ℕ → List ℕ
absent_text steps word = if bytes_eq word (codes "z") then codes "z: the origin, which is never done" ++ line_feed ∷ [] else missing_text (Some steps) word

-- what is said of a word for an event that a plan of so many steps lacks, or for the origin in place of an event that takes place; or
-- else of a flag for steps
abbrev pub absent_told : ℕ → Line → List ℕ
absent_told steps line = unwrap_or (option_or (option_map (absent_text steps) (absent_event steps line)) (option_map (flag_text steps) (steps_flag line))) []

-- what is said of times that are not one for each event of a plan of so many steps, or else of a file of names
abbrev pub counts_told : ℕ → Line → List ℕ
counts_told steps line = unwrap_or (option_or (option_map (λ times. times_count_text times (2 * steps)) (times_given line)) (option_map (names_count_text steps) (names_file line))) []

-- what is said of flags for names that a plan can't have, or else of counts
abbrev pub form_told : PlanSource → Line → List ℕ
form_told source line = unwrap_or (option_map (λ told. told ++ line_feed ∷ []) (names_refused line source)) (counts_told (steps_of source) line)

-- what is said of a refusal of the text of a file of names
abbrev pub names_told : Line → Refusal → List ℕ
names_told line refusal = unwrap_or (option_map (λ name. file_text name refusal) (names_file line)) []

-- what is said of a refusal by a log's plan, or of the text of a file of names: the log itself can be opened
abbrev pub plan_told : PlanSource → Line → Refusal → List ℕ
plan_told source line refusal = if refusal.code == number_of code.NoEvent then absent_told (steps_of source) line
    else (if refusal.code == number_of code.Line then form_told source line
    else (if refuses_plan refusal.code then names_told line refusal else []))

-- what is said of a word that `explain` doesn't know
abbrev pub code_told : Line → List ℕ
code_told (Explain (Some word)) = word.now ++ (codes ": no number of a refusal, and no word of a fault (explain lists them)" ++ line_feed ∷ [])
code_told line = []

-- what is not robust of the plan that a command loosens
abbrev pub TellsPromise : Entries → Line → List ℕ → Type 0
TellsPromise entries (Make log (Loosen domain plan early late robust)) text = SaysFragile entries domain.now plan.now (slack_read early late) text
TellsPromise entries line text = ⊥

-- a refusal of a command whose words can all be read: a log that has a fault, what the log's plan refuses, what is not robust, or what can't be
-- explained
pub data TellsLog (entries : Entries) (line : Line) (refusal : Refusal) (text : List ℕ) : Type 0 where
  of_log : (log : SiteLog) → log_of line ≡ Some log → IsUnopened entries log.name.now (Refused refusal)
      → text ≡ file_text log.name.now refusal → TellsLog entries line refusal text
  of_other : (other : List ℕ) → other_of line ≡ Some other → IsUnopened entries other (Refused refusal)
      → text ≡ file_text other refusal → TellsLog entries line refusal text
  of_plan : (source : PlanSource) → HasPlan entries line source → text ≡ plan_told source line refusal → TellsLog entries line refusal text
  of_promise : refusal.code ≡ number_of code.NotRobust → TellsPromise entries line text → TellsLog entries line refusal text
  of_code : log_of line ≡ None → text ≡ code_told line → TellsLog entries line refusal text

abbrev pub TellsFile : Option (List ℕ) → Entries → Line → Refusal → List ℕ → Type 0
TellsFile (Some name) entries line refusal text = text ≡ file_text name refusal
TellsFile None entries line refusal text = TellsLog entries line refusal text ⊎ (text ≡ [])

-- a word that refuses a command, and what it should be in the plan of the command's log
abbrev pub TellsWord : Entries → Line → RefusedWord → List ℕ → Type 0
TellsWord entries line refused text = (steps : Option ℕ) × HasSteps entries line steps × (text ≡ word_text steps refused)

-- the word that refuses the command; or else the file, the event or the times that the refusal is about, where these are known
abbrev pub TellsAbout : Option RefusedWord → Entries → Line → Refusal → List ℕ → Type 0
TellsAbout (Some refused) entries line refusal text = TellsWord entries line refused text
TellsAbout None entries line refusal text = TellsFile (file_refused line refusal.code) entries line refusal text

-- what a refusal means, where its number has a meaning, and what it is about
abbrev pub SaysRefusal : Entries → Line → Refusal → List ℕ → List ℕ → Type 0
SaysRefusal entries line refusal meaning about = IsMeant (decimal refusal.code) meaning × TellsAbout (word_refused line) entries line refusal about

abbrev pub IsRefusalReason : Entries → Line → Refusal → List ℕ → Type 0
IsRefusalReason entries line refusal reason = (meaning : List ℕ) × (about : List ℕ) × SaysRefusal entries line refusal meaning about × (reason ≡ meaning ++ about)

-- both in one line: a semicolon is between them, in place of the end of the first line
abbrev pub on_one_line : List ℕ → List ℕ → List ℕ
on_one_line meaning [] = meaning
on_one_line meaning (byte ∷ rest) = take (length meaning - 1) meaning ++ (codes "; " ++ byte ∷ rest)

abbrev pub IsReasonInLine : Entries → Line → Refusal → List ℕ → Type 0
IsReasonInLine entries line refusal reason = (meaning : List ℕ) × (about : List ℕ) × SaysRefusal entries line refusal meaning about × (reason ≡ on_one_line meaning about)

-- what is told of a fault of which no file or address is known: which stream it is of, where that is known
abbrev pub connection_text : List ℕ → Fault → List ℕ
connection_text address fault.Read = trouble_text address cause.Unread
connection_text address fault.Bound = trouble_text address cause.TooLong
connection_text address other = []

abbrev pub output_text : Fault → List ℕ
output_text fault.Write = trouble_text (codes "standard output") cause.Unwritten
output_text other = []

abbrev pub own_text : Fault → List ℕ
own_text fault.Read = trouble_text (codes "standard input") cause.Unread
own_text fault.Bound = trouble_text (codes "standard input") cause.TooLong
own_text other = output_text other

-- of a command: `send` has a connection, and only `run` and `shell` read the standard input
abbrev pub stream_text : Line → Fault → List ℕ
stream_text (Send log address seconds) failed = connection_text address.now failed
stream_text Run failed = own_text failed
stream_text (Shell log) failed = own_text failed
stream_text line failed = output_text failed

-- what can't be used, and why, where the store knows it; else which stream the fault is of
abbrev pub known_trouble : Option Trouble → Line → Fault → List ℕ
known_trouble None line other = stream_text line other
known_trouble (Some trouble) line other = trouble_text (string_bytes trouble.name) trouble.cause

-- of memory nothing is told
abbrev pub fault_reason : Option Trouble → Line → Fault → List ℕ
fault_reason trouble line fault.Memory = []
fault_reason trouble line other = known_trouble trouble line other

-- what a store keeps of its last trouble, no clause says
abbrev pub IsFaultReason : Line → Fault → List ℕ → Type 0
IsFaultReason line failed reason = (trouble : Option Trouble) × (reason ≡ fault_reason trouble line failed)

-- why a command ends without an answer
abbrev pub IsReason : Entries → Line → Failure → List ℕ → Type 0
IsReason entries line (Refused refusal) reason = IsRefusalReason entries line refusal reason
IsReason entries line (Failed failed) reason = IsFaultReason line failed reason
