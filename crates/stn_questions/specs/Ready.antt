-- What `ready` prints.
use Rattle.std.specs.{Prelude.{◌≡◌, ◌⊎◌, ℕ, ℤ, ◌==◌, ◌≤ℤ◌, Bool, List, ◌∷◌, ◌++◌, codes, All, Some, count_by}, List.{flat_map, AllPairs}}
use Rattle.stn_net.specs.{Difference.Difference, Event.event_text, Schedule.HasSchedule, Windows.Dispatch.{IsReady, AreReadyTimes, ComesFirst, IsNext}, declared.windows.answers.Next.{Next, TheVariants.{Run, AllDone, Overdue}}}
use Rattle.stn_lift.specs.PlanSource.{PlanSource}
use Rattle.stn_records.specs.Content.{Content}
use Rattle.stn_site.specs.{Bounds.all_bounds, Report.done_events, Lines.{line, times_text}}
use Rattle.stn_questions.specs.declared.ready_event.ReadyEvent.{ReadyEvent}

-- the first event has the earlier first time; where the first times are equal, it has no greater number
abbrev pub IsBefore : ReadyEvent → ReadyEvent → Type 0
IsBefore one other = ComesFirst one.first one.event other.first other.event

-- each event that may run at some time from now on stands there once, and no other event does; the times from now on at which it may
-- run are those from its first to its last; the events come by first time, and then by number
pub record AreReadyEvents (bounds : List Difference) (done : List Bool) (now : ℤ) (ready : List ReadyEvent) : Type 0 where
  pub times : All (λ one. AreReadyTimes bounds done now one.event (Some (one.first, one.last))) ready
  pub once : (event : ℕ) (time : ℤ) → now ≤ℤ time → IsReady bounds done event time → count_by (λ one. one.event == event) ready ≡ 1
  pub order : AllPairs IsBefore ready

-- `<event> <first> <last>`
abbrev pub ready_line : ReadyEvent → List ℕ
ready_line one = line (event_text one.event ++ codes " " ++ times_text one.first one.last)

-- the first line says that the event may run from that time on, and all lines have the same last time
pub record BeginsWithNext (time : ℤ) (event : ℕ) (text : List ℕ) : Type 0 where
  pub last : ℤ
  pub others : List ReadyEvent
  pub lines : text ≡ flat_map ready_line (record { first = time; event = event; last = last } ∷ others)
  pub until : All (λ one. one.last ≡ last) others

-- the lines of the events that are ready from now on
pub record AreReadyLines (bounds : List Difference) (done : List Bool) (now : ℤ) (text : List ℕ) : Type 0 where
  pub ready : List ReadyEvent
  pub events : AreReadyEvents bounds done now ready
  pub lines : text ≡ flat_map ready_line ready

-- what is printed where this comes next: the lines of the events that are ready where one of them runs next, and else why none does
abbrev pub IsReadyAnswer : List Difference → List Bool → ℤ → Next → List ℕ → Type 0
IsReadyAnswer bounds done now (Run time event) text = AreReadyLines bounds done now text
IsReadyAnswer bounds done now AllDone text = text ≡ line (codes "all done")
IsReadyAnswer bounds done now (Overdue event) text = text ≡ line (codes "overdue " ++ event_text event)

-- the bounds have a schedule, and the text says which events are ready from now on
pub record SaysReady (bounds : List Difference) (done : List Bool) (now : ℤ) (text : List ℕ) : Type 0 where
  pub possible : HasSchedule bounds
  pub answer : Next
  pub next : IsNext bounds done now answer
  pub said : IsReadyAnswer bounds done now answer text

-- the bounds have no schedule, and the text is `conflict`
pub record SaysConflict (bounds : List Difference) (text : List ℕ) : Type 0 where
  pub conflict : ¬ HasSchedule bounds
  pub said : text ≡ line (codes "conflict")

-- the text that `ready` prints from now on, where these events count as done
abbrev pub IsReadyWith : List Difference → List Bool → ℤ → List ℕ → Type 0
IsReadyWith bounds done now text = SaysReady bounds done now text ⊎ SaysConflict bounds text

-- the same, by all bounds, where those events count as done that a live record says are done
abbrev pub IsReadyText : PlanSource → Content → ℤ → List ℕ → Type 0
IsReadyText source state now text = IsReadyWith (all_bounds source state) (done_events source state) now text
