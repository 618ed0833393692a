-- What is said to a query where steps have the names that a plan's text gives, and why it is not.
use Rattle.std.specs.Prelude.{◌≡◌, ◌⊎◌, ℕ, ◌==◌, if◌then◌else◌, List, length, map, Vec, Option, Some, None, Result, Ok, Err}
use Rattle.stn_refusal.specs.{declared.failure.Failure.Failure, Refusals.out_of_memory}
use Rattle.stn_lift.specs.{Plan.{Steps.{PlannedStep, plan_of}, Failures.plan_failure}, declared.plan.fault.PlanFault.PlanFault, PlanSource.steps_of}
use Rattle.stn_site.specs.Held.{Held}
use Rattle.stn_questions.specs.{declared.asked.Question.TheVariants.Steps, Steps.{planned_steps, step_name, name_lines}}
use Rattle.stn_chart.specs.Chart.{Look}
use Rattle.stn_picture.specs.Picture.{IsPicture}
use Rattle.stn_command.specs.{NamedLines.with_names, Query.{Query, ask, draw, IsSaid, IsQueryRefusal}, Words.no_such_word}

-- the answer without names, and at the end of its lines those of such steps
abbrev pub IsSaidWithNames : Query → List PlannedStep → Held → List ℕ → Type 0
IsSaidWithNames query steps held text = (plain : List ℕ) × IsSaid query held plain × (text ≡ with_names (map step_name steps) held.state plain)

-- where the names of steps stand: they are all that is said; or a picture has them; or they stand at the ends of the lines
pub data Naming : Type 0 where
  names_alone : Naming
  in_picture : (look : Look) → Naming
  at_lines : Naming

abbrev pub naming : Query → Naming
naming (ask Steps) = names_alone
naming (draw look) = in_picture look
naming query = at_lines

abbrev pub IsNamedBy : Naming → Query → List PlannedStep → Held → List ℕ → Type 0
IsNamedBy names_alone query steps held text = text ≡ name_lines 0 steps
IsNamedBy (in_picture look) query steps held text = IsPicture look (map step_name steps) held.source held.state text
IsNamedBy at_lines query steps held text = IsSaidWithNames query steps held text

-- the text answers the query, where the steps have the actions and arguments of such steps
abbrev pub IsNamed : Query → List PlannedStep → Held → List ℕ → Type 0
IsNamed query = IsNamedBy (naming query) query

-- the text is said; or something refuses the query, or memory ran out
abbrev pub SaysNamed : {A : Type 0} → Query → List PlannedStep → Held → Result (Vec ℕ A) Failure → Type 0
SaysNamed query steps held (Ok text) = IsNamed query steps held text.items × IsQueryRefusal query held None
SaysNamed query steps held (Err failure) = IsQueryRefusal query held (Some failure) ⊎ (failure ≡ out_of_memory)

-- why a plan, read so, names no steps of one of so many: its text has a fault, or it has another number of steps
abbrev pub count_refusal : ℕ → Result (List PlannedStep) PlanFault → Option Failure
count_refusal steps (Err fault) = Some (plan_failure fault)
count_refusal steps (Ok named) = if length named == steps then None else Some no_such_word

-- a cause, or those after it
abbrev pub IsAfter : Option Failure → (Option Failure → Type 0) → Option Failure → Type 0
IsAfter (Some failure) Next cause = cause ≡ Some failure
IsAfter None Next cause = Next cause

-- why nothing is said with these names: the plan names no steps of this one, or the query is refused
abbrev pub IsNamesRefusal : Query → List ℕ → Held → Option Failure → Type 0
IsNamesRefusal query plan held cause = IsAfter (count_refusal (steps_of held.source) (plan_of plan)) (IsQueryRefusal query held) cause

-- what is said with the names of a plan's text, or with none, and why it is not
abbrev pub IsSaidBy : Option (List ℕ) → Query → Held → List ℕ → Type 0
IsSaidBy None query held text = IsSaid query held text
IsSaidBy (Some plan) query held text = IsNamed query (planned_steps plan) held text

abbrev pub IsRefusedBy : Option (List ℕ) → Query → Held → Option Failure → Type 0
IsRefusedBy None query held cause = IsQueryRefusal query held cause
IsRefusedBy (Some plan) query held cause = IsNamesRefusal query plan held cause
