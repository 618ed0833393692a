-- What a site is asked about its plan and what it holds, what is said of it, and why that is refused.
use Rattle.std.specs.{Prelude.{◌≡◌, ◌≢◌, ◌⊎◌, ℕ, ℤ, pos, Bool, true, false, List, [], ◌∷◌, length, if◌then◌else◌, Vec, Option, Some, None, option_map, unwrap_or, Result, Ok, Err}, List.list_all}
use Rattle.stn_refusal.specs.declared.code.Code.TheVariants as code
use Rattle.stn_refusal.specs.{declared.failure.Failure.Failure, Refusals.{refused_of, out_of_memory}}
use Rattle.stn_net.specs.{Failures.bound_failure, Schedule.times_of, declared.bound.BoundFault.TheVariants.NoEvent}
use Rattle.stn_lift.specs.PlanSource.{PlanSource, events_of, steps_of}
use Rattle.stn_records.specs.Content.{Content}
use Rattle.stn_site.specs.{Bounds.all_bounds, Held.Held, Names.broken_bound, Report.IsReport, Own.{is_within, are_within}}
use Rattle.stn_questions.specs.{declared.{asked.Question.Question, words.{LoneQuery.LoneQuery, Outlook.Outlook}}, Answer.{IsAnswer, IsQuestionRefusal}, Ready.IsReadyWith, Steps.source_names}
use Rattle.stn_repairs.specs.Text.{IsRepairsText}
use Rattle.stn_chart.specs.Chart.{Look, seen_look}
use Rattle.stn_picture.specs.Picture.{IsPicture}
use Rattle.stn_command.specs.{declared.queries.{Query.Query as QueryOfCode, Choice.Choice as ChoiceOfCode}, Words.no_such_word, Dispatch.{Choice, done_or_not_chosen, check_text, IsNextText, IsRestText, IsOverdueAt, IsRefusedRehearsal}}
use Rattle.stn_command.specs.declared.queries.Query.TheVariants as asked
use Rattle.stn_questions.specs.declared.words.LoneQuery.TheVariants as lone
use Rattle.stn_questions.specs.declared.words.Outlook.TheVariants as outlook

-- the report; whether times for the events from 1 on are a schedule; of the chosen events, what comes next from a time on, which may run,
-- or how the rest runs; another question; what mends a conflict; the picture, drawn so
pub data Query : Type 0 where
  report : Query
  check : (times : List ℤ) → Query
  foresee : (outlook : Outlook) (now : ℤ) (choice : Choice) → Query
  ask : (question : Question) → Query
  repairs : Query
  draw : (look : Look) → Query

-- the choice that the code has
abbrev pub seen_choice : ChoiceOfCode → Choice
seen_choice choice = record { steps = option_map (λ ranges. ranges.now) choice.steps; starts = choice.starts }

-- the query that the code has
abbrev pub seen_query : QueryOfCode → Query
seen_query asked.Report = report
seen_query (asked.Check times) = check times.now
seen_query (asked.Foresee outlook now choice) = foresee outlook now (seen_choice choice)
seen_query (asked.Ask question) = ask question
seen_query asked.Repairs = repairs
seen_query (asked.Draw look) = draw (seen_look look)

abbrev pub seen_lone : LoneQuery → Query
seen_lone lone.Report = report
seen_lone (lone.Ask question) = ask question
seen_lone lone.Repairs = repairs

-- what is said of the events that are left from now on, where these events count as done
abbrev pub IsForeseen : Outlook → PlanSource → Content → List Bool → ℤ → List ℕ → Type 0
IsForeseen outlook.Next source state done now text = IsNextText source state done now text
IsForeseen outlook.Ready source state done now text = IsReadyWith (all_bounds source state) done now text
IsForeseen outlook.Rehearse source state done now text = IsRestText source state done now text

-- the text answers the query about a plan and what a site holds; the origin's time is 0
abbrev pub IsSaidIn : PlanSource → Content → Query → List ℕ → Type 0
IsSaidIn source state report text = IsReport source state text
IsSaidIn source state (check times) text = text ≡ check_text (broken_bound source state (times_of (pos 0 ∷ times)))
IsSaidIn source state (foresee outlook now choice) text = IsForeseen outlook source state (done_or_not_chosen choice source state) now text
IsSaidIn source state (ask question) text = IsAnswer source state question text
IsSaidIn source state repairs text = IsRepairsText source state text
IsSaidIn source state (draw look) text = IsPicture look (source_names source) source state text

abbrev pub IsSaid : Query → Held → List ℕ → Type 0
IsSaid query held text = IsSaidIn held.source held.state query text

-- why a check is refused: there is not one time for each event
abbrev pub IsCheckRefusal : PlanSource → List ℤ → Option Failure → Type 0
IsCheckRefusal source times cause = ((length times ≢ events_of source) × (cause ≡ Some no_such_word))
    ⊎ ((length times ≡ events_of source) × (cause ≡ None))

-- why a rehearsal is refused: an event is overdue
abbrev pub IsRehearseRefusal : PlanSource → Content → List Bool → ℤ → Option Failure → Type 0
IsRehearseRefusal source state done now cause = ((event : ℕ) × IsOverdueAt source state done now event × (cause ≡ Some (refused_of code.Overdue event)))
    ⊎ ((¬ IsRefusedRehearsal source state done now) × (cause ≡ None))

-- why nothing is said of the events that are left
abbrev pub IsOutlookRefusal : Outlook → PlanSource → Content → List Bool → ℤ → Option Failure → Type 0
IsOutlookRefusal outlook.Rehearse source state done now cause = IsRehearseRefusal source state done now cause
IsOutlookRefusal other source state done now cause = cause ≡ None

-- a plan of so many steps has all steps that are chosen
abbrev pub has_steps : Choice → ℕ → Bool
has_steps choice steps = list_all (λ range. is_within steps range) (unwrap_or choice.steps [])

-- why nothing is said of chosen events: the plan lacks one of their steps; else, why nothing is said of the events that are left
abbrev pub IsForesightRefusal : PlanSource → Content → Outlook → ℤ → Choice → Option Failure → Type 0
IsForesightRefusal source state outlook now choice cause = ((has_steps choice (steps_of source) ≡ false) × (cause ≡ Some (bound_failure NoEvent)))
    ⊎ ((has_steps choice (steps_of source) ≡ true) × IsOutlookRefusal outlook source state (done_or_not_chosen choice source state) now cause)

-- why a picture is refused: the plan lacks a step that a site is said to own
abbrev pub draw_refusal : Look → PlanSource → Option Failure
draw_refusal look source = if are_within (steps_of source) look.owned then None else Some (bound_failure NoEvent)

-- why a query is refused, or that it is not
abbrev pub IsRefusedIn : PlanSource → Content → Query → Option Failure → Type 0
IsRefusedIn source state report cause = cause ≡ None
IsRefusedIn source state (check times) cause = IsCheckRefusal source times cause
IsRefusedIn source state (foresee outlook now choice) cause = IsForesightRefusal source state outlook now choice cause
IsRefusedIn source state (ask question) cause = IsQuestionRefusal source question cause
IsRefusedIn source state repairs cause = cause ≡ None
IsRefusedIn source state (draw look) cause = cause ≡ draw_refusal look source

abbrev pub IsQueryRefusal : Query → Held → Option Failure → Type 0
IsQueryRefusal query held cause = IsRefusedIn held.source held.state query cause

-- an event of a rehearsal may be overdue: the plan has all steps that it chooses
abbrev pub MayBeOverdue : Query → PlanSource → Type 0
MayBeOverdue (foresee outlook.Rehearse now choice) source = has_steps choice (steps_of source) ≡ true
MayBeOverdue other source = ⊥

-- memory may be lacking: no cause refuses the query, or it rehearses steps that the plan has
abbrev pub LacksMemory : Query → Held → Type 0
LacksMemory query held = IsQueryRefusal query held None ⊎ MayBeOverdue query held.source

-- the text is said of the events that are left; or something refuses that, or memory ran out
abbrev pub Foresees : {A : Type 0} → Outlook → ℤ → List Bool → Held → Result (Vec ℕ A) Failure → Type 0
Foresees outlook now done held (Ok text) = IsForeseen outlook held.source held.state done now text.items × IsOutlookRefusal outlook held.source held.state done now None
Foresees outlook now done held (Err failure) = IsOutlookRefusal outlook held.source held.state done now (Some failure) ⊎ (failure ≡ out_of_memory)

-- the text is said; or something refuses the query, or memory ran out
abbrev pub Says : {A : Type 0} → Query → Held → Result (Vec ℕ A) Failure → Type 0
Says query held (Ok text) = IsSaid query held text.items × IsQueryRefusal query held None
Says query held (Err failure) = IsQueryRefusal query held (Some failure) ⊎ ((failure ≡ out_of_memory) × LacksMemory query held)
