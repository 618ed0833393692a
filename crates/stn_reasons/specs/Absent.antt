-- The word of a command that names no event of a plan.
use Rattle.std.specs.{Prelude.{ℕ, ◌*◌, ◌&&◌, Bool, nat_le, List, Option, Some, None, if◌then◌else◌}, Borrow.Bor, Option.option_or}
use Rattle.stn_line.specs.declared.words.{LogChange.TheVariants.{Add, Amend, Done}, LogQuestion.TheVariants.Why, Line.{Line, TheVariants.{Change, Ask}}}
use Rattle.stn_command.specs.Words.{event_of}

-- an event lies between the first that may be named and the last of so many steps
abbrev pub is_of_plan : ℕ → ℕ → ℕ → Bool
is_of_plan first steps event = nat_le first event && nat_le event (2 * steps)

-- the word, where its event does not
abbrev pub absent_by : Option ℕ → ℕ → ℕ → List ℕ → Option (List ℕ)
absent_by None first steps word = None
absent_by (Some event) first steps word = if is_of_plan first steps event then None else Some word

abbrev pub absent : ℕ → ℕ → List ℕ → Option (List ℕ)
absent first steps word = absent_by (event_of word) first steps word

abbrev pub absent_second : ℕ → Option (Bor (List ℕ)) → Option (List ℕ)
absent_second steps None = None
absent_second steps (Some word) = absent 0 steps word.now

-- the first such word; the origin never takes place, so `done` may not name it
abbrev pub absent_event : ℕ → Line → Option (List ℕ)
absent_event steps (Change log (Add from to lo hi)) = option_or (absent 0 steps from.now) (absent 0 steps to.now)
absent_event steps (Change log (Amend id from to lo hi)) = option_or (absent 0 steps from.now) (absent 0 steps to.now)
absent_event steps (Change log (Done event time)) = absent 1 steps event.now
absent_event steps (Ask log (Why event to) names) = option_or (absent 0 steps event.now) (absent_second steps to)
absent_event steps other = None
