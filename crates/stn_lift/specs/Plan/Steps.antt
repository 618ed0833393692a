-- The steps of a plan text, or its first fault.
use Rattle.std.specs.{Prelude.{◌≡◌, ℕ, ℤ, pos, ◌≤ℤ◌, ◌≤◌, Bool, true, false, ◌||◌, nat_lt, if◌then◌else◌, List, [], ◌∷◌, ◌++◌, length, All, Option, Some, None, IfSome, Result, Ok, Err}, Int.is_negative, Option.{option_map_or, option_to_list}}
use Rattle.stn_time.specs.{declared.reading.TimeFault.TimeFault, TimeOf.time_of}
pub use Rattle.stn_text.specs.Bytes.{most_text}
use Rattle.stn_text.specs.Faults.{◌>>=◌}
pub use Rattle.stn_net.specs.Event.{most_steps}
use Rattle.stn_lift.specs.{declared.plan.{bytes.Mark.TheVariants.{Colon, Open, Close, OpenSquare, CloseSquare}, fault.PlanFault.{PlanFault, TheVariants.{TooLong, Syntax, Number, Negative, TooManySteps, Memory}}}, Plan.{Tokens.{Lexeme, Word, Sign, tokens_of}, Lines.lines_of}}

-- a step of a plan text: its line, its start in milliseconds, its action and arguments, and its duration in milliseconds, if
-- the line says one
pub record PlannedStep : Type 0 where
  pub line : ℕ
  pub time : ℤ
  pub action : List ℕ
  pub args : List (List ℕ)
  pub duration : Option ℤ

-- the words of a line that has the form of a step
pub record Form : Type 0 where
  pub time : List ℕ
  pub action : List ℕ
  pub args : List (List ℕ)
  pub duration : Option (List ℕ)

-- `word* )`: the words, and the tokens after the `)`
unfoldable pub args_of : ℕ → List Lexeme → Result (List (List ℕ) × List Lexeme) PlanFault
args_of line (Word word ∷ tokens) = args_of line tokens >>= λ found. Ok (word ∷ found.0, found.1)
args_of line (Sign Close ∷ tokens) = Ok ([], tokens)
args_of line _ = Err (Syntax line)

-- nothing, or `[ word ]`
unfoldable pub duration_form : ℕ → List Lexeme → Result (Option (List ℕ)) PlanFault
duration_form line [] = Ok None
duration_form line (Sign OpenSquare ∷ Word word ∷ Sign CloseSquare ∷ []) = Ok (Some word)
duration_form line _ = Err (Syntax line)

-- `word : ( word word* )`, and then nothing or `[ word ]`
unfoldable pub form_of : ℕ → List Lexeme → Result Form PlanFault
form_of line (Word time ∷ Sign Colon ∷ Sign Open ∷ Word action ∷ tokens) =
    args_of line tokens >>= λ args.
    duration_form line args.1 >>= λ duration.
    Ok (record { time = time; action = action; args = args.0; duration = duration })
form_of line _ = Err (Syntax line)

-- a time, or Number in place of any fault of its text
abbrev pub or_number : ℕ → Result ℤ TimeFault → Result ℤ PlanFault
or_number line (Ok millis) = Ok millis
or_number line (Err fault) = Err (Number line)

-- the time that a word spells
unfoldable pub time_at : ℕ → List ℕ → Result ℤ PlanFault
time_at line word = or_number line (time_of word)

-- the time that the word of a duration spells, where there is one
unfoldable pub duration_of : ℕ → Option (List ℕ) → Result (Option ℤ) PlanFault
duration_of line None = Ok None
duration_of line (Some word) = time_at line word >>= λ millis. Ok (Some millis)

-- the step at these times, of which neither may be below 0
unfoldable pub step_at : ℕ → Form → ℤ → Option ℤ → Result PlannedStep PlanFault
step_at line form time duration =
    if is_negative time || option_map_or is_negative duration false then Err (Negative line)
    else Ok (record { line = line; time = time; action = form.action; args = form.args; duration = duration })

-- the step of a line of the form: both words are times, and then neither is below 0
unfoldable pub timed_step : ℕ → Form → Result PlannedStep PlanFault
timed_step line form =
    time_at line form.time >>= λ time.
    duration_of line form.duration >>= λ duration.
    step_at line form time duration

-- the step of a line by itself: none on a line without tokens
unfoldable pub step_of : ℕ → List Lexeme → Result (Option PlannedStep) PlanFault
step_of line [] = Ok None
step_of line (token ∷ tokens) =
    form_of line (token ∷ tokens) >>= λ form.
    timed_step line form >>= λ step.
    Ok (Some step)

-- what a line gives by itself
abbrev pub line_step : ℕ × List ℕ → Result (Option PlannedStep) PlanFault
line_step line = step_of line.0 (tokens_of line.1)

-- the steps of the lines, or the fault of the first line that has one
unfoldable pub steps_of : List (ℕ × List ℕ) → Result (List PlannedStep) PlanFault
steps_of [] = Ok []
steps_of (line ∷ lines) =
    line_step line >>= λ step.
    steps_of lines >>= λ steps.
    Ok (option_to_list step ++ steps)

-- the steps, where they are no more than a plan may have
unfoldable pub limited : List PlannedStep → Result (List PlannedStep) PlanFault
limited steps = if nat_lt most_steps (length steps) then Err TooManySteps else Ok steps

-- the steps of a plan text, or its first fault
unfoldable pub plan_of : List ℕ → Result (List PlannedStep) PlanFault
plan_of text = if nat_lt most_text (length text) then Err TooLong else (steps_of (lines_of text) >>= limited)

-- memory ran out
abbrev pub is_plan_memory : PlanFault → Bool
is_plan_memory Memory = true
is_plan_memory fault = false

-- the step's time is not below 0, nor is its duration
pub record IsTimely (step : PlannedStep) : Type 0 where
  pub time : pos 0 ≤ℤ step.time
  pub duration : IfSome step.duration (λ millis. pos 0 ≤ℤ millis)

-- what a plan holds: its text, and the steps on its lines
pub record Contents : Type 0 where
  pub text : List ℕ
  pub steps : List PlannedStep

-- what every plan keeps to: its text gives its steps
pub record IsPlan (plan : Contents) : Type 0 where
  pub given : plan_of plan.text ≡ Ok plan.steps
  pub short : length plan.text ≤ most_text
  pub few : length plan.steps ≤ most_steps
  pub timely : All IsTimely plan.steps
