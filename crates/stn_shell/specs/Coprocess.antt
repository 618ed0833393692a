-- A shell on a log: each line of an input is done as the command on the log, and answered, before more is read.
use Rattle.std.specs.{Prelude.{◌≡◌, ◌≢◌, ◌⊎◌, ℕ, ◌+◌, Bool, true, false, ◌||◌, if◌then◌else◌, bytes_eq, IsUtf8, List, [], ◌∷◌, ◌++◌, codes, Option, None, Some, Result, Ok, Err}, List.AllByRecursion, Result.is_err}
use Rattle.clap.specs.{Words.{IsAmong, Text, fault_of}, declared.error.kind.ErrorKind.ErrorKind}
use Rattle.stn_text.specs.{Bytes.line_feed, Lines.words_of}
use Rattle.stn_device.specs.Bytes.{most_bytes}
use Rattle.stn_effects.specs.{Effects.{Effect, Then, Repeats, Catches, Gives, seen}, Printing.{Device, Writes, TellsText}}
use Rattle.stn_exec.specs.Script.{is_skipped}
use Rattle.stn_line.specs.{Commands.stn, declared.words.{SiteLog.SiteLog, Line.{Line, TheVariants.{Run, Make, Change, Ask, Explain, Shell, Serve, Send}}}}
use Rattle.stn_logs.specs.{Commands.DoesLine, Hints.IsHinted}
use Rattle.stn_reasons.specs.{Reasons.IsReasonInLine, Waiting.TellsWaiting}
use Rattle.stn_shell.specs.{Asking.{AskFor, no_text, not_of_shell}, Lines.TakesLine, Outside.{Outside, outside, InStore, Mentions, OnStandardOutput, OnError, TellsOnly}}
use Rattle.stn_store.specs.Steps.{LoadsLog}
use Rattle.stn_refusal.specs.{Printed.refusal_text, Refusals.{refused_at, out_of_memory}, declared.{failure.{Failure.{Failure, TheVariants.{Refused, Failed}}, Fault.Fault}, refusal.Refusal.Refusal}}
use Rattle.stn_refusal.specs.declared.code.Code.TheVariants as code

-- ---- the command that a line asks for
-- the words of a command line, by those of a line of the shell: after the command, but for `explain`, stand words in place of LOG and
-- SITE
abbrev pub line_words : List Text → List Text
line_words [] = codes "stn" ∷ []
line_words (command ∷ words) =
    if bytes_eq command (codes "explain") then codes "stn" ∷ command ∷ words
    else codes "stn" ∷ command ∷ codes "LOG" ∷ codes "1" ∷ words

-- a shell does commands on a log that is there, which is its own, and explanations
abbrev pub of_shell : SiteLog → Line → Option Line
of_shell log Run = None
of_shell log (Make other made) = None
of_shell log (Change other made) = Some (Change log made)
of_shell log (Ask other asked names) = Some (Ask log asked names)
of_shell log (Explain code) = Some (Explain code)
of_shell log (Shell other) = None
of_shell log (Serve other address count seconds) = None
of_shell log (Send other address seconds) = None

-- words are no command of a shell, and why is told: clap refuses them, or they are another command line
abbrev pub IsNoCommand : SiteLog → List Text → Device → Device → Type 0
IsNoCommand log words err told =
    ((kind : ErrorKind) × (text : List ℕ) × IsAmong kind (fault_of stn words) × (text ≢ []) × TellsText text err told)
    ⊎ ((line : Line) × AskFor words line × (of_shell log line ≡ None) × TellsText not_of_shell err told)

-- a command of a shell on the log, in the words of a command line; words that are none are refused by the number of their line
abbrev pub ReadsCommand : SiteLog → ℕ → List Text → Effect Device Line
ReadsCommand log number words err told (Ok line) = ((asked : Line) × AskFor words asked × (of_shell log asked ≡ Some line)) × (told ≡ err)
ReadsCommand log number words err told (Err failure) =
    (IsNoCommand log words err told × (failure ≡ refused_at code.Line number)) ⊎ ((failure ≡ out_of_memory) × (told ≡ err))

-- the words of a line are texts; a word that is none is told
abbrev pub ReadsTexts : ℕ → List Text → Effect Device (List Text)
ReadsTexts number words err told (Ok all) = AllByRecursion IsUtf8 words × (all ≡ line_words words) × (told ≡ err)
ReadsTexts number words err told (Err failure) =
    ((¬ (AllByRecursion IsUtf8 words)) × TellsText no_text err told × (failure ≡ refused_at code.Line number)) ⊎ ((failure ≡ out_of_memory) × (told ≡ err))

-- what a command does; its hints are told, or, where it is refused, its reason: either on one line
abbrev pub SaysWhy : Line → Effect Outside (List ℕ) → Effect Outside (List ℕ)
SaysWhy line Does old new (Ok text) = (between : Outside) × Does old between (Ok text) × TellsOnly (IsHinted between.entries line) between new
SaysWhy line Does old new (Err (Refused refusal)) = (between : Outside) × Does old between (Err (Refused refusal)) × TellsOnly (IsReasonInLine between.entries line refusal) between new
SaysWhy line Does old new (Err (Failed fault)) = Does old new (Err (Failed fault))

-- the command of such words is done
abbrev pub DoesWords : (Fault → Type 0) → SiteLog → ℕ → List Text → Effect Outside (List ℕ)
DoesWords Fails log number words =
    Then (OnError (ReadsCommand log number words)) (λ line.
    Then (Mentions (λ _. TellsWaiting line)) (λ _.
    SaysWhy line (InStore (DoesLine Fails line))))

-- ---- a line
-- what is printed for it: the answer, or the refusal
abbrev pub reply_text : Result (List ℕ) Refusal → List ℕ
reply_text (Ok text) = text
reply_text (Err refusal) = refusal_text refusal

-- its words are done, and their answer or refusal is printed, and an empty line after it; a fault has no answer. The value is whether
-- the line is refused
abbrev pub AnswersWords : (Fault → Type 0) → SiteLog → ℕ → List Text → Effect Outside Bool
AnswersWords Fails log number words =
    Then (Catches (Then (OnError (ReadsTexts number words)) (λ all. DoesWords Fails log number all))) (λ reply.
    Then (OnStandardOutput (Writes (reply_text reply ++ line_feed ∷ []))) (λ _.
    Gives (is_err reply)))

-- of a comment, or of a line without words, nothing is done
abbrev pub AnswersUnless : Bool → (Fault → Type 0) → SiteLog → ℕ → List Text → Effect Outside Bool
AnswersUnless true Fails log number words = Gives false
AnswersUnless false Fails log number words = AnswersWords Fails log number words

-- the line of this number; the value is whether it is refused
abbrev pub DoesText : (Fault → Type 0) → SiteLog → ℕ → List ℕ → Effect Outside Bool
DoesText Fails log number line = AnswersUnless (is_skipped (words_of line)) Fails log number (words_of line)

-- ---- all lines
-- where a shell stands: what is outside, how many lines it read, how many bytes it may still read, and whether a line was refused
pub record Standing : Type 0 where
  pub around : Outside
  pub lines : ℕ
  pub room : ℕ
  pub refused : Bool

-- before the first line
abbrev pub beginning : Outside → Standing
beginning around = record { around = around; lines = 0; room = most_bytes; refused = false }

-- an effect on what is outside alone
abbrev pub Around : {X : Type 0} → Effect Outside X → Effect Standing X
Around Does old new ended = Does old.around new.around ended × (new.lines ≡ old.lines) × (new.room ≡ old.room) × (new.refused ≡ old.refused)

-- the same, but for what is left to read, how many lines were read, and how many bytes may be
abbrev pub further : Standing → Device → ℕ → ℕ → Standing
further old unread lines room = record {
  around = outside old.around.entries unread old.around.out old.around.err;
  lines = lines;
  room = room;
  refused = old.refused;
}

-- how many lines were read then
abbrev pub lines_by : Result (Option (List ℕ)) Failure → ℕ → ℕ
lines_by (Ok (Some line)) lines = lines + 1
lines_by other lines = lines

-- the next line is read, if there is one
abbrev pub ReadsLine : Effect Standing (Option (List ℕ))
ReadsLine old new ended = (unread : Device) × (room : ℕ) × TakesLine old.room room old.around.unread unread ended
    × (new ≡ further old unread (lines_by ended old.lines) room)

-- whether a line was refused is kept
abbrev pub Notes : Bool → Effect Standing Bool
Notes refused old new ended = (new ≡ record { around = old.around; lines = old.lines; room = old.room; refused = old.refused || refused }) × (ended ≡ Ok true)

-- a line is done, if there is one; `lines` counts it already, so it is its number. The value is whether more is to be read
abbrev pub DoesRead : (Fault → Type 0) → SiteLog → Option (List ℕ) → Effect Standing Bool
DoesRead Fails log None old = Gives false old
DoesRead Fails log (Some line) old = Then (Around (DoesText Fails log old.lines line)) Notes old

-- a turn: the next line is read and done; the value is again whether more is to be read
abbrev pub Turns : (Fault → Type 0) → SiteLog → Effect Standing Bool
Turns Fails log = Then ReadsLine (λ read. DoesRead Fails log read)

-- the log can be opened (what it says then is used for nothing), and then all lines are done
abbrev pub DoesLines : (Fault → Type 0) → SiteLog → Effect Standing (Unit {0})
DoesLines Fails log =
    Then (Around (InStore (LoadsLog Fails log.name.now log.site))) (λ _.
    Repeats (Turns Fails log))

-- the status of a shell is 1 if a line was refused, else 0
abbrev pub RunsShell : (Fault → Type 0) → SiteLog → Effect Outside ℕ
RunsShell Fails log old new ended = (last : Standing) × (done : Result (Unit {0}) Failure)
    × DoesLines Fails log (beginning old) last done × (new ≡ last.around) × (ended ≡ seen (λ _. if last.refused then 1 else 0) done)
