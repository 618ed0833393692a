-- What became of the words of a command line.
use Rattle.std.specs.Prelude.{◌≡◌, ◌≢◌, ◌⊎◌, ℕ, List, []}
use Rattle.clap.specs.{Words.{IsAmong, Text, fault_of}, declared.error.kind.ErrorKind.{ErrorKind, TheVariants.{DisplayHelp, DisplayVersion}}}
use Rattle.stn_line.specs.{Commands.stn, declared.words.Line.Line}
use Rattle.stn_shell.specs.{Asking.{AskFor, no_text}, Carried.Does, Outside.{Outside, Ends}, declared.process.Wordless.Wordless}
use Rattle.stn_effects.specs.Printing.{Device, Prints, BreaksOff, TellsText, TellsFault}
use Rattle.stn_shell.specs.declared.process.Wordless.TheVariants as wordless
use Rattle.stn_refusal.specs.declared.failure.Fault.{Fault, TheVariants.{Write, Memory}}

-- what clap says of words is a mistake, no help and no version
abbrev pub IsMistake : ErrorKind → Type 0
IsMistake kind = (kind ≢ DisplayHelp) × (kind ≢ DisplayVersion)

-- memory ran out, which was told
abbrev pub TellsLackOfMemory : Device → Device → Device → Device → ℕ → Type 0
TellsLackOfMemory old new err told status = (status ≡ 1) × (new ≡ old) × TellsFault Memory err told

-- a text of clap was printed: of a mistake on the standard error, as far as that could be written, with status 2; help and the version
-- on the output, with status 0, or with status 1 where that can't be written
abbrev pub SaysText : List ℕ → ErrorKind → Device → Device → Device → Device → ℕ → Type 0
SaysText text kind old new err told status =
    (IsMistake kind × (status ≡ 2) × (new ≡ old) × TellsText text err told)
    ⊎ ((¬ IsMistake kind) × (status ≡ 0) × Prints old new text × (told ≡ err))
    ⊎ ((¬ IsMistake kind) × (status ≡ 1) × BreaksOff old new text × TellsFault Write err told)

-- words that clap refused were answered, or memory ran out before they were read
abbrev pub AnswersRefusedWords : List Text → Device → Device → Device → Device → ℕ → Type 0
AnswersRefusedWords words old new err told status =
    ((kind : ErrorKind) × (text : List ℕ) × IsAmong kind (fault_of stn words) × (text ≢ []) × SaysText text kind old new err told status)
    ⊎ TellsLackOfMemory old new err told status

-- a command line was done or stopped; or there was none, and then nothing was read or saved
abbrev pub IsExecuted : (Fault → Type 0) → List Text → Outside → Outside → ℕ → Type 0
IsExecuted Fails words old new status =
    ((line : Line) × AskFor words line × Ends (Does Fails) line old new status)
    ⊎ ((new.entries ≡ old.entries) × (new.unread ≡ old.unread) × AnswersRefusedWords words old.out new.out old.err new.err status)

-- a process has no words: one is no text, which is a mistake, or memory ran out; that was told, and nothing was saved, read or printed
abbrev pub IsWordless : Wordless → Outside → Outside → ℕ → Type 0
IsWordless wordless.NoText old new status = (new.entries ≡ old.entries) × (new.unread ≡ old.unread) × (new.out ≡ old.out) × (status ≡ 2) × TellsText no_text old.err new.err
IsWordless wordless.Memory old new status = (new.entries ≡ old.entries) × (new.unread ≡ old.unread) × TellsLackOfMemory old.out new.out old.err new.err status
