-- What a site holds has an answer to each query, or a cause that refuses it.
use Rattle.std.{proofs.{Common.{rules, ◌≡◌, ◌⊎◌, inl, inr, ℕ, ℤ, pos, ◌+◌, ◌<◌, Bool, true, false, List, ◌∷◌, codes, length, map, Some, None, refl}, lemmas.{Bool.cases_eq, Option.none-some, List.FromFn.length-map-range_with_len}}, specs.Prelude.{not, ◌||◌}}
use Rattle.stn_net.specs.Schedule.{times_of}
use Rattle.stn_refusal.specs.declared.code.Code.TheVariants as code
use Rattle.stn_refusal.specs.{declared.{refusal.Refusal.Refusal, failure.Failure.TheVariants.Refused}, Refusals.{refusal, refusal_at, refusal_of}}
use Rattle.stn_lift.specs.{Plan.Steps.PlannedStep, PlanSource.{PlanSource, events_of, steps_of}}
use Rattle.stn_site.specs.{Held.Held, SoundSite.IsSoundSite, Lines.line, Names.broken_bound, Report.is_done, Own.are_within}
use Rattle.stn_questions.specs.{declared.{asked.Question.{Question, TheVariants.{Records, Steps, Bounds, Why, WhyApart}}, words.Outlook.Outlook}, Answer.{AsksOfNoEvent, AsksOfSameEvent}, Steps.{source_names, step_name, name_lines}}
use Rattle.stn_laws.proofs.{questions.{SomeReport.{IsSoundState, some_report}, SomeAnswer.some_answer, SomeDispatch.{possible_or_none, some_next, some_rest, some_ready}}, queries.{SomeRepairs.some_repairs_text, SomePicture.some_picture}}
use Rattle.stn_chart.specs.Chart.{Look}
use Rattle.stn_command.{specs.{Named.{Naming, names_alone, in_picture, at_lines, naming, IsNamed, IsNamedBy, IsSaidWithNames}, NamedLines.with_names, Dispatch.{Choice, is_chosen, done_or_not_chosen, check_text, next_text, runs_text}, Query.{Query, report, check, foresee, ask, repairs, draw, IsForeseen, IsSaid, IsOutlookRefusal, has_steps, IsQueryRefusal}}, proofs.OneRefusal.one_refusal}
use Rattle.stn_questions.specs.declared.words.Outlook.TheVariants as outlook

-- something is said to the query, which nothing refuses, or a cause refuses it
abbrev pub IsSaidOrRefused : Query → Held → Type 0
IsSaidOrRefused query held =
    ((text : List ℕ) × IsQueryRefusal query held None × IsSaid query held text) ⊎ ((cause : Refusal) × IsQueryRefusal query held (Some (Refused cause)))

-- and so of the events that are left
abbrev IsForeseenOrRefused : Outlook → Held → List Bool → ℤ → Type 0
IsForeseenOrRefused outlook held done now =
    ((text : List ℕ) × IsOutlookRefusal outlook held.source held.state done now None × IsForeseen outlook held.source held.state done now text)
    ⊎ ((cause : Refusal) × IsOutlookRefusal outlook held.source held.state done now (Some (Refused cause)))

not_past : (last event : ℕ) → (last < event) ⊎ (¬ (last < event))
not_past last event = search (rules)

no_event_or_not : (source : PlanSource) (question : Question) → AsksOfNoEvent source question ⊎ (¬ AsksOfNoEvent source question)
no_event_or_not source Records = inr (λ none. none)
no_event_or_not source Steps = inr (λ none. none)
no_event_or_not source Bounds = inr (λ none. none)
no_event_or_not source (Why event) = not_past (events_of source) event
no_event_or_not source (WhyApart from to) = search (rules)

same_event_or_not : (question : Question) → AsksOfSameEvent question ⊎ (¬ AsksOfSameEvent question)
same_event_or_not Records = inr (λ none. none)
same_event_or_not Steps = inr (λ none. none)
same_event_or_not Bounds = inr (λ none. none)
same_event_or_not (Why event) = inr (λ none. none)
same_event_or_not (WhyApart from to) = cases_eq from to

module _ {held : Held} (sound : IsSoundSite held) where
  state_sound : IsSoundState held.source held.state
  state_sound = search rules

  foreseen : (outlook : Outlook) (done : List Bool) → length done ≡ events_of held.source + 1 → (now : ℤ) → IsForeseenOrRefused outlook held done now
  foreseen outlook.Next done long now =
      elim (possible_or_none state_sound) [
        | inl possible ↦
            let (answer, is) = some_next state_sound possible done long now in
            inl (next_text answer, refl, inl (record { possible = possible; answer = answer; next = is; said = refl }))
        | inr none ↦ inl (line (codes "conflict"), refl, inr (record { conflict = none; said = refl }))
      ]
  foreseen outlook.Ready done long now = (let (text, is) = some_ready state_sound done long now in inl (text, refl, is))
  foreseen outlook.Rehearse done long now =
      elim (possible_or_none state_sound) [
        | inl possible ↦ elim (some_rest state_sound sound.proper possible done long now) [
          | inl (runs, rest) ↦ inl (runs_text runs, inr ((λ late. late.1.overdue.1 rest.in_time), refl), inl (record { runs = runs; rest = rest; lines = refl }))
          | inr (event, late) ↦ inr (refusal_of code.Overdue event, inl (event, record { possible = possible; overdue = late }, refl))
        ]
        | inr none ↦ inl (line (codes "conflict"), inr ((λ late. none late.1.possible), refl), inr (record { conflict = none; said = refl }))
      ]

  of_chosen : (outlook : Outlook) (now : ℤ) (choice : Choice) → IsSaidOrRefused (foresee outlook now choice) held
  of_chosen outlook now choice = by (has_steps choice (steps_of held.source)) refl
    where
      done : List Bool
      done = done_or_not_chosen choice held.source held.state

      by : (t : Bool) → has_steps choice (steps_of held.source) ≡ t → IsSaidOrRefused (foresee outlook now choice) held
      by false e = inr (refusal code.NoEvent, inl (e, refl))
      by true e =
          elim (foreseen outlook done (length-map-range_with_len (λ event. is_done held.state event || not (is_chosen choice event)) 0 _) now) [
            | inl (text, free, is) ↦ inl (text, inr (e, free), is)
            | inr (cause, refused) ↦ inr (cause, inr (e, refused))
          ]

  checked : (times : List ℤ) → IsSaidOrRefused (check times) held
  checked times =
      elim (cases_eq _ _) [
        | inl same ↦ inl (check_text (broken_bound held.source held.state (times_of (pos 0 ∷ times))), inr (same, refl), refl)
        | inr other ↦ inr (refusal_at code.Line 0, inl (other, refl))
      ]

  -- a question names no event of the plan, or one and itself, or neither
  asked : (question : Question) → IsSaidOrRefused (ask question) held
  asked question =
      elim (no_event_or_not held.source question) [
        | inl none ↦ inr (refusal code.NoEvent, inl (none, refl))
        | inr there ↦ elim (same_event_or_not question) [
          | inl same ↦ inr (refusal code.SameEvent, inr (inl (there, same, refl)))
          | inr apart ↦ (let (text, is) = some_answer state_sound question there in inl (text, inr (inr (there, apart, refl)), is))
        ]
      ]

  -- the plan has all owned steps, or not
  drawn : (look : Look) (t : Bool) → are_within (steps_of held.source) look.owned ≡ t → IsSaidOrRefused (draw look) held
  drawn look true e = (let (text, is) = some_picture state_sound look (source_names held.source) in inl (text, rw e refl, is))
  drawn look false e = inr (refusal code.NoEvent, rw e refl)

  pub said_or_refused : (query : Query) → IsSaidOrRefused query held
  said_or_refused report = (let (text, is) = some_report state_sound in inl (text, refl, is))
  said_or_refused (check times) = checked times
  said_or_refused (foresee outlook now choice) = of_chosen outlook now choice
  said_or_refused (ask question) = asked question
  said_or_refused repairs = (let (text, is) = some_repairs_text state_sound in inl (text, refl, is))
  said_or_refused (draw look) = drawn look _ refl

  -- where nothing refuses the query, something is said
  pub some_said : (query : Query) → IsQueryRefusal query held None → (text : List ℕ) × IsSaid query held text
  some_said query free = let either = said_or_refused query in search (rules, none-some, one_refusal)

  -- and nothing does, or a cause that is printed
  pub some_refusal : (query : Query) → IsQueryRefusal query held None ⊎ ((cause : Refusal) × IsQueryRefusal query held (Some (Refused cause)))
  some_refusal query = let either = said_or_refused query in search rules

  -- the same by the names of steps
  by_said : (query : Query) (steps : List PlannedStep) → IsQueryRefusal query held None → (text : List ℕ) × IsSaidWithNames query steps held text
  by_said query steps free = (let (text, is) = some_said query free in (with_names (map step_name steps) held.state text, (text, is, refl)))

  pub some_named : (query : Query) (steps : List PlannedStep) → IsQueryRefusal query held None → (text : List ℕ) × IsNamed query steps held text
  some_named query steps free = by (naming query)
    where
      by : (kind : Naming) → (text : List ℕ) × IsNamedBy kind query steps held text
      by names_alone = (name_lines 0 steps, refl)
      by (in_picture look) = some_picture state_sound look (map step_name steps)
      by at_lines = by_said query steps free
