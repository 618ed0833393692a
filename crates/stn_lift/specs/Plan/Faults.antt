-- Why a text is refused, in the words of its lines.
use Rattle.std.specs.Prelude.{◌≡◌, ℕ, ◌<◌, ◌≤◌, List, ◌∷◌, ◌++◌, length, All, Ok, Err, IsOk}
use Rattle.stn_lift.specs.{declared.plan.fault.PlanFault.{PlanFault, TheVariants.{TooLong, Syntax, Number, Negative, TooManySteps, Memory}}, Plan.{Lines.lines_of, Steps.{PlannedStep, most_text, most_steps, line_step, steps_of}}}

-- a fault that names this line
abbrev pub NamesLine : ℕ → PlanFault → Type 0
NamesLine line TooLong = ⊥
NamesLine line (Syntax number) = number ≡ line
NamesLine line (Number number) = number ≡ line
NamesLine line (Negative number) = number ≡ line
NamesLine line TooManySteps = ⊥
NamesLine line Memory = ⊥

-- one of the lines has the fault by itself, which names that line, and no line before it has a fault
pub record IsFirstLineFault (lines : List (ℕ × List ℕ)) (fault : PlanFault) : Type 0 where
  pub earlier : List (ℕ × List ℕ)
  pub line : ℕ × List ℕ
  pub later : List (ℕ × List ℕ)
  pub whole : lines ≡ earlier ++ line ∷ later
  pub its_fault : line_step line ≡ Err fault
  pub its_number : NamesLine line.0 fault
  pub none_before : All (λ other. IsOk (line_step other)) earlier

-- no line has a fault, and there are more steps than a plan may have
pub record HasTooManySteps (lines : List (ℕ × List ℕ)) : Type 0 where
  pub steps : List PlannedStep
  pub found : steps_of lines ≡ Ok steps
  pub many : most_steps < length steps

-- the cause that a fault has: a text that is too long has no other
abbrev pub IsPlanCause : List ℕ → PlanFault → Type 0
IsPlanCause text TooLong = most_text < length text
IsPlanCause text TooManySteps = (length text ≤ most_text) × HasTooManySteps (lines_of text)
IsPlanCause text Memory = Unit {0}
IsPlanCause text fault = (length text ≤ most_text) × IsFirstLineFault (lines_of text) fault
