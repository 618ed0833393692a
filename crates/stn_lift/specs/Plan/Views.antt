-- Steps and their parts as contracts see them, without where they lie in memory.
use Rattle.std.specs.{Prelude.{ℕ, List, map, Vec}, Borrow.Bor, Option.option_map}
use Rattle.stn_lift.specs.{Plan.Steps.{Form, PlannedStep}, declared.plan.step.{Step.Step, Words.Words}}

abbrev pub word_of : Bor (List ℕ) → List ℕ
word_of word = word.now

module _ {A : Type 0} where
  abbrev pub names_of : Vec (Bor (List ℕ)) A → List (List ℕ)
  names_of names = map word_of names.items

  abbrev pub form_in : Words A → Form
  form_in words = record { time = words.time.now; action = words.action.now; args = names_of words.args; duration = option_map word_of words.duration }

  -- the step as a plan gives it
  abbrev pub planned_step : Step A → PlannedStep
  planned_step step = record { line = step.line; time = step.time; action = step.action.now; args = names_of step.args; duration = step.duration }
