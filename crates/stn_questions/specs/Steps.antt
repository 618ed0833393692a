-- What `steps` prints.
use Rattle.std.specs.{Prelude.{ℕ, ℤ, ◌+◌, List, [], ◌∷◌, ◌++◌, codes, decimal, map}, List.{flat_map, range_with_len}, Result.result_unwrap_or}
use Rattle.stn_time.specs.Text.{printed}
use Rattle.stn_lift.specs.{Plan.Steps.{PlannedStep, plan_of}, BaseBounds.duration_of, PlanSource.{PlanSource, bare, files, activities_of}}
use Rattle.stn_site.specs.Lines.{line}

-- the action, and after a space each of its arguments
abbrev pub action_text : List ℕ → List (List ℕ) → List ℕ
action_text action arguments = action ++ flat_map (λ argument. codes " " ++ argument) arguments

-- `<number> <action> <argument> ..`, the words as the plan's text spells them
abbrev pub step_name_text : ℕ → PlannedStep → List ℕ
step_name_text number step = decimal number ++ codes " " ++ action_text step.action step.args

-- the same, and ` <start> <duration>`
abbrev pub step_line : ℕ → PlannedStep → ℤ → List ℕ
step_line number step duration = line (step_name_text number step ++ codes " " ++ printed step.time ++ codes " " ++ printed duration)

-- the lines of the steps after so many others; steps are counted from 1, and each lasts as long as it is said of the number of those before it
abbrev pub step_lines : (ℕ → ℤ) → ℕ → List PlannedStep → List ℕ
step_lines duration before [] = []
step_lines duration before (step ∷ steps) = step_line (before + 1) step (duration before) ++ step_lines duration (before + 1) steps

-- the steps of a plan text, in the order of its lines
abbrev pub planned_steps : List ℕ → List PlannedStep
planned_steps plan = result_unwrap_or (plan_of plan) []

-- the name of a step: its action and its arguments
abbrev pub step_name : PlannedStep → List ℕ
step_name step = action_text step.action step.args

-- the names of the steps of a plan text, and those of the steps of a plan, which a bare plan lacks
abbrev pub plan_names : List ℕ → List (List ℕ)
plan_names plan = map step_name (planned_steps plan)

abbrev pub source_names : PlanSource → List (List ℕ)
source_names (bare steps) = []
source_names (files domain plan) = plan_names plan

-- the names of the steps after so many others, each in a line
abbrev pub name_lines : ℕ → List PlannedStep → List ℕ
name_lines before [] = []
name_lines before (step ∷ steps) = line (step_name_text (before + 1) step) ++ name_lines (before + 1) steps

-- a line for each step from 1 on: its number; of a plan of files also its action, its planned start and the duration in the domain
abbrev pub steps_text : PlanSource → List ℕ
steps_text (bare steps) = flat_map (λ number. line (decimal number)) (range_with_len 1 steps)
steps_text (files domain plan) = step_lines (duration_of (activities_of domain plan)) 0 (planned_steps plan)
