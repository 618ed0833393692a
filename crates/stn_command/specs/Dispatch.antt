-- What is said of times for the events, of what comes next, and of the rest of the plan.
use Rattle.std.specs.{Prelude.{◌≡◌, ◌⊎◌, ℕ, ◌+◌, ℤ, Bool, true, false, not, ◌&&◌, ◌||◌, List, ◌++◌, map, codes, Option, Some, None}, List.{flat_map, list_any, range_with_len}}
use Rattle.stn_time.specs.Text.{printed}
use Rattle.stn_net.specs.{Event.event_text, Schedule.HasSchedule, declared.windows.answers.Next.{Next, TheVariants.{Run, AllDone, Overdue}}, Windows.{Dispatch.IsNext, Rehearsal.IsRehearseFault}}
use Rattle.stn_net.specs.declared.windows.answers.RehearseFault.TheVariants as rehearse_fault
use Rattle.stn_lift.specs.PlanSource.{PlanSource, events_of}
use Rattle.stn_records.specs.Content.{Content}
use Rattle.stn_site.specs.{declared.{names.BoundName.BoundName, own.StepRange.StepRange}, Bounds.all_bounds, Lines.line, Names.name_text, Report.is_done, Dispatch.IsRestWith, Own.{has, is_end}}

-- events of a plan: those of the steps of some ranges, or of all steps where none are given; or the starts of these steps alone
pub record Choice : Type 0 where
  pub steps : Option (List StepRange)
  pub starts : Bool

-- every event
abbrev pub every_event : Choice
every_event = record { steps = None; starts = false }

-- the event is of one of these steps
abbrev pub is_of : Option (List StepRange) → ℕ → Bool
is_of (Some ranges) event = list_any (λ range. has range event) ranges
is_of None event = true

abbrev pub is_chosen : Choice → ℕ → Bool
is_chosen choice event = is_of choice.steps event && not (choice.starts && is_end event)

-- for each event of the plan, the origin first, whether it doesn't count as left: some live record says that it is done, or it is not chosen
abbrev pub done_or_not_chosen : Choice → PlanSource → Content → List Bool
done_or_not_chosen choice source state = map (λ event. is_done state event || not (is_chosen choice event)) (range_with_len 0 (events_of source + 1))

-- `broken <name>`, by the first bound that the times break; `schedule`, where they break none
abbrev pub check_text : Option BoundName → List ℕ
check_text (Some name) = line (codes "broken " ++ name_text name)
check_text None = line (codes "schedule")

-- `run <t> <event>`
abbrev pub run_line : ℤ → ℕ → List ℕ
run_line time event = line (codes "run " ++ printed time ++ codes " " ++ event_text event)

-- the line of a run, `all done` or `overdue <event>`
abbrev pub next_text : Next → List ℕ
next_text (Run time event) = run_line time event
next_text AllDone = line (codes "all done")
next_text (Overdue event) = line (codes "overdue " ++ event_text event)

-- all bounds have no schedule, and the text is `conflict`
pub record SaysPlanConflict (source : PlanSource) (state : Content) (text : List ℕ) : Type 0 where
  pub conflict : ¬ HasSchedule (all_bounds source state)
  pub said : text ≡ line (codes "conflict")

-- all bounds have a schedule, and the text is the line of what comes next from now on, where these events count as done
pub record SaysNext (source : PlanSource) (state : Content) (done : List Bool) (now : ℤ) (text : List ℕ) : Type 0 where
  pub possible : HasSchedule (all_bounds source state)
  pub answer : Next
  pub next : IsNext (all_bounds source state) done now answer
  pub said : text ≡ next_text answer

-- the text that `next` prints, where these events count as done
abbrev pub IsNextText : PlanSource → Content → List Bool → ℤ → List ℕ → Type 0
IsNextText source state done now text = SaysNext source state done now text ⊎ SaysPlanConflict source state text

-- a line for each run, and `all done`
abbrev pub runs_text : List (ℤ × ℕ) → List ℕ
runs_text runs = flat_map (λ run. run_line run.0 run.1) runs ++ line (codes "all done")

-- the text is the lines of the rest of the plan from now on, where these events count as done
pub record SaysRuns (source : PlanSource) (state : Content) (done : List Bool) (now : ℤ) (text : List ℕ) : Type 0 where
  pub runs : List (ℤ × ℕ)
  pub rest : IsRestWith source state done now runs
  pub lines : text ≡ runs_text runs

-- the text is the rest of the plan from now on, or `conflict`
abbrev pub IsRestText : PlanSource → Content → List Bool → ℤ → List ℕ → Type 0
IsRestText source state done now text = SaysRuns source state done now text ⊎ SaysPlanConflict source state text

-- all bounds have a schedule, and the event is the one that is overdue
pub record IsOverdueAt (source : PlanSource) (state : Content) (done : List Bool) (now : ℤ) (event : ℕ) : Type 0 where
  pub possible : HasSchedule (all_bounds source state)
  pub overdue : IsRehearseFault (all_bounds source state) done now (rehearse_fault.Overdue event)

-- a rehearsal is refused
abbrev pub IsRefusedRehearsal : PlanSource → Content → List Bool → ℤ → Type 0
IsRefusedRehearsal source state done now = (event : ℕ) × IsOverdueAt source state done now event
