-- What is told before a command waits for a log that another program holds.
use Rattle.std.specs.Prelude.{◌≡◌, ◌⊎◌, ℕ, List, [], ◌∷◌, ◌++◌, codes, Option, Some, None, is_some, if◌then◌else◌}
use Rattle.stn_text.specs.Bytes.{line_feed}
use Rattle.stn_line.specs.declared.words.Line.{Line, TheVariants.Change}
use Rattle.stn_asked.specs.Words.{word_refused}

-- the log that a command changes, if no word refuses it; it is held from its load to its save
abbrev pub changed_log : Line → Option (List ℕ)
changed_log (Change log change) = if is_some (word_refused (Change log change)) then None else Some log.name.now
changed_log line = None

abbrev pub waiting_text : List ℕ → List ℕ
waiting_text name = name ++ (codes ": another program holds it, waiting" ++ line_feed ∷ [])

-- that this log is waited for, or nothing; whether another program holds it, no clause says
abbrev pub TellsWaiting : Line → List ℕ → Type 0
TellsWaiting line text = ((name : List ℕ) × (changed_log line ≡ Some name) × (text ≡ waiting_text name)) ⊎ (text ≡ [])
