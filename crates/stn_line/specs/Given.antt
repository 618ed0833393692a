-- For proofs alone: no public clause cites these words.
-- What the words of an accepted command hold.
use Rattle.std.specs.{Prelude.{◌≡◌, ◌≢◌, ◌⊎◌, codes, Bool, true, false, List, [], ◌∷◌, Option, Some, IsSomeAnd, IfSome, is_some, ◌||◌, filter, map, ℕ, ⊤, find}, List.AllByRecursion, Str.bytes_eq}
use Rattle.clap.specs.{declared.builder.value_parser.ValueParser.{ValueParser, TheVariants.{String, Unsigned}}, Words.{IsUnsignedIn, Row, Rule, Shape, Text, built, first_of}}
use Rattle.stn_questions.specs.Words.{lone_query, outlook_of}
use Rattle.stn_line.specs.Commands.{commands, program}

-- the name is one of these
abbrev pub IsOneOf : Text → List Text → Type 0
IsOneOf name [] = ⊥
IsOneOf name (other ∷ others) = (name ≡ other) ⊎ IsOneOf name others

-- the commands whose names are all of a question, or all but the time now and the events
abbrev pub asked_names : List Text
asked_names = filter (λ name. is_some (lone_query name) || is_some (outlook_of name)) (map (λ command. command.name) commands)

-- the word of this name has a value
abbrev pub HasValue : Text → List Row → Type 0
HasValue name rows = IsSomeAnd (first_of name rows) (λ _. ⊤)

-- and its value is a number from `least` to `most`
abbrev pub IsNumberThere : Text → ℕ → ℕ → List Row → Type 0
IsNumberThere name least most rows = IsSomeAnd (first_of name rows) (IsUnsignedIn least most)

-- where the option of this name is given, its value is a number from `least` to `most`
abbrev pub IsNumberWhereGiven : Text → ℕ → ℕ → List Row → Type 0
IsNumberWhereGiven name least most rows = IfSome (first_of name rows) (IsUnsignedIn least most)

-- what is known of the value of a word, by whether it is required and by its parser
abbrev pub HoldsWord : Bool → Option ValueParser → Option Text → Type 0
HoldsWord true (Some String) value = IsSomeAnd value (λ _. ⊤)
HoldsWord true (Some (Unsigned least most)) value = IsSomeAnd value (IsUnsignedIn least most)
HoldsWord false (Some (Unsigned least most)) value = IfSome value (IsUnsignedIn least most)
HoldsWord required parser value = ⊤

abbrev pub HoldsWords : List Row → List Rule → Type 0
HoldsWords rows rules = AllByRecursion (λ (rule : Rule). HoldsWord rule.required rule.parser (first_of rule.id rows)) rules

-- one of these commands has this name, and its words are given
abbrev pub HoldsWordsAmong : List Shape → Text → List Row → Type 0
HoldsWordsAmong commands name rows = IsSomeAnd (find (λ command. bytes_eq command.name name) commands) (λ command. HoldsWords rows command.rules)

-- the same of the program's commands
abbrev pub HasWords : Text → List Row → Type 0
HasWords = HoldsWordsAmong (built (program commands)).subs

-- the same of a command that is done: clap itself answers `help`
abbrev pub IsEntered : Text → List Row → Type 0
IsEntered name rows = HasWords name rows × (name ≢ codes "help")
