-- From each time on, each plan and each state have what comes next, a rehearsal and a text of the events that are ready.
use Rattle.std.{proofs.Common.{◌≡◌, ◌⊎◌, inl, inr, ℕ, ℤ, ◌+◌, Bool, List, ◌++◌, length, codes, refl}, specs.List.flat_map}
use Rattle.stn_net.specs.{Event.event_text, Schedule.HasSchedule, declared.windows.answers.Next.{Next, TheVariants.{Run, AllDone, Overdue}}, Windows.{Dispatch.IsNext, Rehearsal.{IsRehearsal, IsRehearseFault}}, Matrix.Table.Table}
use Rattle.stn_matrix.proofs.{Fixed.{table_of, exact_of_tightest}, SomeNext.{AreFlagged, some_next as next_by_table}, SomeRehearsal.rehearsed_or_overdue, Rehearsals.{rehearsed_schedule, rehearsed_rising, rehearsed_in_time, rehearsed_once}}
use Rattle.stn_net.specs.declared.windows.answers.RehearseFault.TheVariants as fault
use Rattle.stn_lift.specs.PlanSource.{PlanSource, events_of}
use Rattle.stn_records.specs.Content.{Content, AllProper}
use Rattle.stn_conflict.proofs.Tightness.{schedule_before}
use Rattle.stn_site.{specs.{Bounds.all_bounds, Lines.line, Dispatch.IsRestWith}, proofs.Rest.rest_of_plan}
use Rattle.stn_questions.specs.Ready.{IsReadyWith, ready_line}
use Rattle.stn_laws.proofs.questions.{Found.{possible_found, tightest_found}, SomeReport.{IsSoundState, differences}, SomeReady.some_ready_events}

module _ {source : PlanSource} {state : Content} (sound : IsSoundState source state) where
  -- all bounds have a schedule, or none
  pub possible_or_none : HasSchedule (all_bounds source state) ⊎ (¬ HasSchedule (all_bounds source state))
  possible_or_none =
      elim (differences sound) [
        | inl (far, found) ↦ inl (possible_found found)
        | inr (place, far, first) ↦ inr (λ (time, is). first.refused (time, schedule_before _ _ time is))
      ]

  flagged : HasSchedule (all_bounds source state) → (done : List Bool) → length done ≡ events_of source + 1 → (table : Table) × AreFlagged (all_bounds source state) table done
  flagged (time, is) done one_each =
      elim (differences sound) [
        | inl (far, found) ↦ (
          table_of (events_of source) far,
          record {
            exact = exact_of_tightest _ _ far found.named (possible_found found)
                (tightest_found found);
            one_each = one_each;
          },
        )
        | inr (place, far, first) ↦ absurd (first.refused (time, schedule_before _ _ time is))
      ]

  -- something comes next
  pub some_next : HasSchedule (all_bounds source state) → (done : List Bool) → length done ≡ events_of source + 1 → (now : ℤ)
      → (answer : Next) × IsNext (all_bounds source state) done now answer
  some_next possible done one_each now = (let (table, are) = flagged possible done one_each in next_by_table (all_bounds source state) table done now are)

  -- there is a rehearsal, or an event is overdue
  pub some_rehearsal : HasSchedule (all_bounds source state) → (done : List Bool) → length done ≡ events_of source + 1 → (now : ℤ)
      → ((runs : List (ℤ × ℕ)) × IsRehearsal (all_bounds source state) done now runs)
      ⊎ ((event : ℕ) × IsRehearseFault (all_bounds source state) done now (fault.Overdue event))
  some_rehearsal possible done one_each now = (let (table, are) = flagged possible done one_each in rehearsed_or_overdue _ table done now are)

  -- a text says which events may run
  pub some_ready : (done : List Bool) → length done ≡ events_of source + 1 → (now : ℤ) → (text : List ℕ) × IsReadyWith (all_bounds source state) done now text
  some_ready done one_each now =
      elim possible_or_none [
        | inr none ↦ (line (codes "conflict"), inr (record { conflict = none; said = refl }))
        | inl possible ↦ (let (answer, next) = some_next possible done one_each now in by possible answer next)
      ]
    where
      by : HasSchedule (all_bounds source state) → (answer : Next) → IsNext (all_bounds source state) done now answer
          → (text : List ℕ) × IsReadyWith (all_bounds source state) done now text
      by possible (Run time event) next =
          let (table, are) = flagged possible done one_each in
          let (ready, events) = some_ready_events _ table done now are in (
            flat_map ready_line ready,
            inl (record { possible = possible; answer = Run time event; next = next; said = record { ready = ready; events = events; lines = refl } }),
          )
      by possible AllDone next = (line (codes "all done"), inl (record { possible = possible; answer = AllDone; next = next; said = refl }))
      by possible (Overdue event) next =
          (line (codes "overdue " ++ event_text event), inl (record { possible = possible; answer = Overdue event; next = next; said = refl }))

-- a rehearsal is the rest of the plan
pub some_rest : {source : PlanSource} {state : Content} → IsSoundState source state → AllProper state.additions → HasSchedule (all_bounds source state)
    → (done : List Bool) → length done ≡ events_of source + 1 → (now : ℤ)
    → ((runs : List (ℤ × ℕ)) × IsRestWith source state done now runs) ⊎ ((event : ℕ) × IsRehearseFault (all_bounds source state) done now (fault.Overdue event))
some_rest {source} {state} sound proper possible done one_each now =
    elim (some_rehearsal sound possible done one_each now) [
      | inr overdue ↦ inr overdue
      | inl (runs, rehearsal) ↦ inl (
        runs,
        rest_of_plan source state done now runs proper rehearsal (rehearsed_once runs _ done now rehearsal)
            (rehearsed_rising runs (all_bounds source state) done now rehearsal) (rehearsed_in_time runs (all_bounds source state) done now possible rehearsal)
            (rehearsed_schedule runs (all_bounds source state) done now possible rehearsal),
      )
    ]
