-- What the text of a plan gives: its steps, or the first fault with its cause.
use Rattle.std.{proofs.{Common.{◌≡◌, ◌<◌, ℕ, ℤ, Bool, true, false, cond, nat_lt, ◌≤◌, length, List, [], ◌∷◌, ◌++◌, Option, Some, None, IfSome, Result, Ok, Err, IsOk, refl, ap, rules}, lemmas.{Bool.{ltb-true, ltb-false}, List.Elements.{All-nil, All-cons, All-append}, Result.MatchResult-weaker}}, specs.{List.All, Option.option_to_list, Result.MatchResult}}
use Rattle.stn_text.{specs.Faults.{◌>>=◌, Fails}, proofs.Readings.both_give}
use Rattle.stn_lift.specs.{declared.plan.{bytes.Mark.TheVariants.{Colon, Open, Close}, fault.PlanFault.{PlanFault, TheVariants.{TooLong, TooManySteps}}}, Plan.{Tokens.{Lexeme, Word, Sign, tokens_of}, Lines.lines_of, Faults.{NamesLine, IsFirstLineFault, IsPlanCause}, Steps.{PlannedStep, Form, IsTimely, IsPlan, args_of, duration_form, form_of, time_at, duration_of, step_at, timed_step, step_of, line_step, most_text, most_steps, steps_of, limited, plan_of, is_plan_memory}}}

-- such a value, or a fault that names the line
abbrev OfLine : {A : Type 0} → ℕ → (A → Type 0) → Result A PlanFault → Type 0
OfLine line Is read = MatchResult read Is (NamesLine line)

args_given : (line : ℕ) (tokens : List Lexeme) → OfLine line (λ _. Unit {0}) (args_of line tokens)
unfolding args_of
args_given line (Word word ∷ tokens) =
    both_give (λ _. Unit {0}) (λ _. Unit {0}) (NamesLine line) (args_of line tokens) _ (args_given line tokens) (λ found _. tt)
args_given line (Sign Close ∷ tokens) = tt
args_given line _ = refl

duration_form_given : (line : ℕ) (tokens : List Lexeme) → OfLine line (λ _. Unit {0}) (duration_form line tokens)
unfolding duration_form
duration_form_given line tokens = search rules

form_given : (line : ℕ) (tokens : List Lexeme) → OfLine line (λ _. Unit {0}) (form_of line tokens)
unfolding form_of
form_given line (Word time ∷ Sign Colon ∷ Sign Open ∷ Word action ∷ tokens) =
    both_give (λ _. Unit {0}) (λ _. Unit {0}) (NamesLine line) (args_of line tokens) _ (args_given line tokens)
    (λ args _. both_give (λ _. Unit {0}) (λ _. Unit {0}) (NamesLine line) (duration_form line args.1) _ (duration_form_given line args.1) (λ duration _. tt))
form_given line _ = refl

time_given : (line : ℕ) (word : List ℕ) → OfLine line (λ _. Unit {0}) (time_at line word)
unfolding time_at
time_given line word = search rules

duration_given : (line : ℕ) (word : Option (List ℕ)) → OfLine line (λ _. Unit {0}) (duration_of line word)
unfolding duration_of
duration_given line None = tt
duration_given line (Some word) = both_give (λ _. Unit {0}) (λ _. Unit {0}) (NamesLine line) (time_at line word) _ (time_given line word) (λ millis _. tt)

step_given : (line : ℕ) (form : Form) (time : ℤ) (duration : Option ℤ) → OfLine line IsTimely (step_at line form time duration)
unfolding step_at
step_given line form time duration = search rules

timed_given : (line : ℕ) (form : Form) → OfLine line IsTimely (timed_step line form)
unfolding timed_step
timed_given line form =
    both_give (λ _. Unit {0}) IsTimely (NamesLine line) (time_at line form.time) _ (time_given line form.time)
    (λ time _. both_give (λ _. Unit {0}) IsTimely (NamesLine line) (duration_of line form.duration) _ (duration_given line form.duration) (λ duration _. step_given line form time duration))

line_given : (line : ℕ) (tokens : List Lexeme) → OfLine line (λ found. IfSome found IsTimely) (step_of line tokens)
unfolding step_of
line_given line [] = tt
line_given line (token ∷ tokens) =
    both_give (λ _. Unit {0}) (λ found. IfSome found IsTimely) (NamesLine line) (form_of line (token ∷ tokens)) _ (form_given line (token ∷ tokens))
    (λ form _. both_give IsTimely (λ found. IfSome found IsTimely) (NamesLine line) (timed_step line form) _ (timed_given line form) (λ step timely. timely))

All-option : (found : Option PlannedStep) → IfSome found IsTimely → All IsTimely (option_to_list found)
All-option found timely = search rules

-- the first line with a fault, after one without
later_line : {line : ℕ × List ℕ} {lines : List (ℕ × List ℕ)} {fault : PlanFault} → IsOk (line_step line) → IsFirstLineFault lines fault → IsFirstLineFault (line ∷ lines) fault
later_line {line} ok first = record {
  earlier = line ∷ first.earlier;
  line = first.line;
  later = first.later;
  whole = ap (λ others. line ∷ others) first.whole;
  its_fault = first.its_fault;
  its_number = first.its_number;
  none_before = All-cons (λ other. IsOk (line_step other)) line first.earlier ok first.none_before;
}

lines_given : (lines : List (ℕ × List ℕ)) → MatchResult (steps_of lines) (All IsTimely) (IsFirstLineFault lines)
unfolding steps_of
lines_given [] = All-nil IsTimely
lines_given (line ∷ lines) = by (line_step line) refl (line_given line.0 (tokens_of line.1)) (lines_given lines)
  where
    by : (found : Result (Option PlannedStep) PlanFault) → line_step line ≡ found → OfLine line.0 (λ step. IfSome step IsTimely) found → MatchResult (steps_of lines) (All IsTimely) (IsFirstLineFault lines)
        → MatchResult (found >>= λ step. steps_of lines >>= λ steps. Ok (option_to_list step ++ steps)) (All IsTimely) (IsFirstLineFault (line ∷ lines))
    by (Ok step) is timely rest =
        let ok : IsOk (line_step line) = rw is refl in
        both_give (All IsTimely) (All IsTimely) (IsFirstLineFault (line ∷ lines)) (steps_of lines) _
        (MatchResult-weaker (steps_of lines) rest (λ steps all. all) (λ fault first. later_line ok first))
        (λ steps all. All-append IsTimely (option_to_list step) steps (All-option step timely) all)
    by (Err fault) is named rest = record {
      earlier = [];
      line = line;
      later = lines;
      whole = refl;
      its_fault = is;
      its_number = named;
      none_before = All-nil (λ other. IsOk (line_step other));
    }

module _ (text : List ℕ) where
  -- a text that is short enough, and whose lines give few enough steps, gives these
  pub plan_of-Ok : (steps : List PlannedStep) → length text ≤ most_text → length steps ≤ most_steps → steps_of (lines_of text) ≡ Ok steps → plan_of text ≡ Ok steps
  unfolding plan_of limited
  plan_of-Ok steps short few found = search rules

  -- one that gives more steps is refused
  pub plan_of-many : (steps : List PlannedStep) → length text ≤ most_text → most_steps < length steps → steps_of (lines_of text) ≡ Ok steps → plan_of text ≡ Err TooManySteps
  unfolding plan_of limited
  plan_of-many steps short many found = search rules

  cause_in_line : {fault : PlanFault} → length text ≤ most_text → IsFirstLineFault (lines_of text) fault → IsPlanCause text fault
  cause_in_line short first = search rules

  -- a plan, or the cause of its fault
  plan_given : MatchResult (plan_of text) (λ steps. IsPlan (record { text = text; steps = steps })) (IsPlanCause text)
  unfolding plan_of limited
  plan_given = by (nat_lt most_text (length text)) refl
    where
      fits : length text ≤ most_text → (steps : List PlannedStep) → steps_of (lines_of text) ≡ Ok steps → All IsTimely steps → (many : Bool) → nat_lt most_steps (length steps) ≡ many
          → MatchResult (cond many (Err TooManySteps) (Ok steps)) (λ steps. IsPlan (record { text = text; steps = steps })) (IsPlanCause text)
      fits short steps found timely true many = (short, record { steps = steps; found = found; many = ltb-true _ _ many })
      fits short steps found timely false many =
          let few = ltb-false _ _ many in
          record { given = plan_of-Ok steps short few found; short = short; few = few; timely = timely }

      read : length text ≤ most_text → (found : Result (List PlannedStep) PlanFault) → steps_of (lines_of text) ≡ found → MatchResult found (All IsTimely) (IsFirstLineFault (lines_of text))
          → MatchResult (found >>= limited) (λ steps. IsPlan (record { text = text; steps = steps })) (IsPlanCause text)
      read short (Ok steps) found timely = fits short steps found timely (nat_lt most_steps (length steps)) refl
      read short (Err fault) found first = cause_in_line short first

      by : (long : Bool) → nat_lt most_text (length text) ≡ long
          → MatchResult (cond long (Err TooLong) (steps_of (lines_of text) >>= limited)) (λ steps. IsPlan (record { text = text; steps = steps })) (IsPlanCause text)
      by true long = ltb-true _ _ long
      by false short = read (ltb-false _ _ short) (steps_of (lines_of text)) refl (lines_given (lines_of text))

  pub plan_read : {steps : List PlannedStep} → plan_of text ≡ Ok steps → IsPlan (record { text = text; steps = steps })
  plan_read is = search (rules, plan_given)

  pub plan_cause_for : (fault : PlanFault) → plan_of text ≡ Err fault → IsPlanCause text fault
  plan_cause_for fault is = search (rules, plan_given)

  pub plan_cause_of : (fault : PlanFault) → Fails is_plan_memory fault (plan_of text) → IsPlanCause text fault
  plan_cause_of fault is = search (rules, plan_cause_for)
