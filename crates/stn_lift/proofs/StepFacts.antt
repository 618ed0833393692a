-- How the steps of a text are read one after another.
use Rattle.std.{proofs.Common.{rules, ◌≡◌, ℕ, List, ◌∷◌, ◌++◌, Option, Result, Ok, append_assoc}, specs.Option.option_to_list}
use Rattle.stn_text.specs.Faults.{◌>>=◌}
use Rattle.stn_lift.specs.{declared.plan.fault.PlanFault.PlanFault, Plan.{Tokens.Lexeme, Steps.{PlannedStep, line_step, steps_of}}}

-- names that were read before those that are found
abbrev pub behind_names : List (List ℕ) → Result (List (List ℕ) × List Lexeme) PlanFault → Result (List (List ℕ) × List Lexeme) PlanFault
behind_names names meaning = meaning >>= λ found. Ok (names ++ found.0, found.1)

-- steps that were read before those that are found
abbrev pub behind_steps : List PlannedStep → Result (List PlannedStep) PlanFault → Result (List PlannedStep) PlanFault
behind_steps steps meaning = meaning >>= λ found. Ok (steps ++ found)

-- one line more, which gives a step or none
pub steps_more : (before after : List PlannedStep) (lines rest : List (ℕ × List ℕ)) (line : ℕ × List ℕ) (found : Option PlannedStep) → lines ≡ line ∷ rest → line_step line ≡ Ok found
    → after ≡ before ++ option_to_list found → behind_steps after (steps_of rest) ≡ behind_steps before (steps_of lines)
unfolding steps_of
steps_more before after lines rest line found here is more = search (rules, append_assoc)
