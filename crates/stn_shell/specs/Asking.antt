-- What words ask for, as the words of a command line.
use Rattle.std.specs.Prelude.{◌≡◌, List, [], ◌∷◌, ◌++◌, ℕ, codes, IsSomeAnd}
use Rattle.clap.specs.Words.{Text, fault_of, subcommand_of}
use Rattle.stn_line.specs.{Commands.stn, Lines.IsLineOf, declared.words.Line.Line}

-- the words are this command line
abbrev pub AskFor : List Text → Line → Type 0
AskFor words line = (fault_of stn words ≡ []) × IsSomeAnd (subcommand_of stn words) (λ command. IsLineOf line command.0 command.1)

-- what is said of a word that is no text
abbrev pub no_text : List ℕ
no_text = codes "error: a word of the command line is not UTF-8" ++ 10 ∷ []

-- what is said of a command line that a shell doesn't do
abbrev pub not_of_shell : List ℕ
not_of_shell = codes "error: not a command of a shell" ++ 10 ∷ []
