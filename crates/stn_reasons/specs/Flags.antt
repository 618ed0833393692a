-- Flags of a command that the plan of its log can't serve.
use Rattle.std.specs.{Prelude.{ℕ, ◌==◌, Bool, true, false, List, [], ◌∷◌, ◌++◌, codes, decimal, option_map, Option, Some, None, if◌then◌else◌}, Borrow.Bor}
use Rattle.stn_text.specs.Bytes.{line_feed}
use Rattle.stn_lift.specs.PlanSource.{PlanSource, bare, files}
use Rattle.stn_line.specs.declared.words.{LogChange.TheVariants.Guard, LogQuestion.TheVariants.{Foresee, Draw}, Line.{Line, TheVariants.{Change, Ask}}}

-- what is said of `--names` and of `--plan`, where the plan can't have names in this way: a bare plan has none of its own
abbrev pub names_by : Bool → Option (Bor (List ℕ)) → PlanSource → Option (List ℕ)
names_by true (Some plan) source = Some (codes "--names, --plan: give one of them alone")
names_by true None (bare steps) = Some (codes "--names: the log has no names of its own (give --plan=PLAN)")
names_by false (Some plan) (files domain text) = Some (codes "--plan: the log has names of its own (shown by steps, draw and --names)")
names_by own plan source = None

abbrev pub names_refused : Line → PlanSource → Option (List ℕ)
names_refused (Ask log asked names) source = names_by names.own names.plan source
names_refused line source = None

-- the file of the names
abbrev pub names_file : Line → Option (List ℕ)
names_file (Ask log asked names) = option_map (λ plan. plan.now) names.plan
names_file line = None

-- the flag that names steps
abbrev pub steps_flag : Line → Option (List ℕ)
steps_flag (Change log (Guard owned)) = Some (codes "--own")
steps_flag (Ask log (Foresee outlook now choice) names) = option_map (λ word. codes "--steps") choice.steps
steps_flag (Ask log (Draw drawing) names) = Some (codes "--own")
steps_flag line = None

-- the steps of a plan of so many
abbrev pub all_steps_text : ℕ → List ℕ
all_steps_text steps = if steps == 0 then codes "the plan has no step" else (if steps == 1
    then codes "the plan has one step"
    else codes "the plan has steps 1 to " ++ decimal steps)

-- the line for a flag that names a step that the plan lacks
abbrev pub flag_text : ℕ → List ℕ → List ℕ
flag_text steps flag = flag ++ (codes ": " ++ (all_steps_text steps ++ line_feed ∷ []))

-- the line for a file of names, whose plan has another number of steps
abbrev pub names_count_text : ℕ → List ℕ → List ℕ
names_count_text steps name = name ++ (codes ": its plan has another number of steps than the log's (" ++ (decimal steps ++ (codes ")" ++ line_feed ∷ [])))
