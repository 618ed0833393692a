-- A source that has a base is sound.
use Rattle.std.{proofs.{lemmas.{Grind.common_steps, Int.ints, List.Elements.{All-head, All-tail}}, Common.{rules, ◌≡◌, ℕ, ℤ, pos, ◌+◌, ◌*◌, ◌<◌, ◌≤◌, ◌+ℤ◌, ◌≤ℤ◌, zero, suc, Bool, false, cond, nat_lt, int_lt, List, [], ◌∷◌, length, find, Option, Some, None, Result, Ok, Err, All, refl, ap, subst, ◌∙◌, arith}}, specs.{Prelude.slice_index_or, List.AllByRecursion, Result.result_unwrap_or}}
use Rattle.stn_text.{proofs.Readings.bind_ok}
use Rattle.stn_time.specs.Time.{horizon}
use Rattle.stn_pddl.{specs.{Tree.{Names.is_same_word, Scan.most_text}, declared.fault.DomainFault.DomainFault, Schemas.ActionSchema, Domains.{domain_of, action_named}, Sound.IsSound}, proofs.SoundActions.{domain-sound, domain-short, found-sound}}
use Rattle.stn_net.specs.{Event.most_steps, Schedule.times_of}
use Rattle.stn_lift.{specs.{declared.{plan.fault.PlanFault.PlanFault, fault.{LiftFault.{LiftFault}, BaseFault.TheVariants.TooManySteps as TooMany}}, Plan.Steps.{PlannedStep, IsTimely, plan_of}, Timelines.IsTimed, Activities.{Activity, with_action, with_found, activity_of, activities}, BaseBounds.{times_behind, event_times, duration_of}, PlanSource.{PlanSource, bare, files, of_lift, steps_in, lifted, activities_of, source_with, base_of, IsSoundSource}}, proofs.{BareSource.sound_bare_source, SoundBounds.{first_horizons, all_named, planned_possible, order_keeps}, FewBounds.few_bounds, Steps.few_steps, Texts.lifted-Ok, PlanFacts.plan_read}}

-- ---- the steps in a domain
not_past : {time : ℤ} → int_lt horizon time ≡ false → time ≤ℤ horizon
not_past e = omega (arith, ints)

with_action_timed : (number : ℕ) (step : PlannedStep) (action : ActionSchema) (one : Activity) → IsTimely step → IsSound action → with_action number step action ≡ Ok one → IsTimed one
unfolding with_action
with_action_timed number step action one timely sound is = search rules

activity_timed : (actions : List ActionSchema) (number : ℕ) (step : PlannedStep) (one : Activity) → AllByRecursion IsSound actions → IsTimely step
    → activity_of actions number step ≡ Ok one → IsTimed one
unfolding activity_of action_named
activity_timed actions number step one all timely is = by (find (λ action. is_same_word step.action action.name) actions) refl is
  where
    by : (found : Option ActionSchema) → find (λ action. is_same_word step.action action.name) actions ≡ found → with_found number step found ≡ Ok one → IsTimed one
    by None e h = cc
    by (Some action) e h = with_action_timed number step action one timely (found-sound (λ action. is_same_word step.action action.name) actions action all e) h

all_timed : (actions : List ActionSchema) (before : ℕ) (steps : List PlannedStep) (found : List Activity) → AllByRecursion IsSound actions → All IsTimely steps
    → activities actions before steps ≡ Ok found → AllByRecursion IsTimed found
unfolding activities
all_timed actions before [] found all timely is = cc
all_timed actions before (step ∷ steps) found all timely is =
    let first = bind_ok (activity_of actions (before + 1) step) _ found is in
    let others = bind_ok (activities actions (before + 1) steps) _ found first.2 in
    let same : first.0 ∷ others.0 ≡ found = let given = others.2 in cc in
    subst (AllByRecursion IsTimed) same
    (activity_timed actions (before + 1) step first.0 all (All-head IsTimely step steps timely) first.1, all_timed actions (before + 1) steps others.0 all (All-tail IsTimely step steps timely) others.1)

-- the steps of two texts lie within the horizon
pub activities_timed : (domain plan : List ℕ) → AllByRecursion IsTimed (activities_of domain plan)
unfolding activities_of lifted
activities_timed domain plan = by (domain_of domain) refl (plan_of plan) refl
  where
    given : (actions : List ActionSchema) (planned : List PlannedStep) → domain_of domain ≡ Ok actions → plan_of plan ≡ Ok planned
        → (found : Result (List Activity) LiftFault) → activities actions 0 planned ≡ found → AllByRecursion IsTimed (result_unwrap_or (of_lift found) [])
    given actions planned domain_is plan_is (Ok steps) is = all_timed actions 0 planned steps (domain-sound domain actions domain_is) (plan_read plan plan_is).timely is
    given actions planned domain_is plan_is (Err fault) is = tt

    by : (actions : Result (List ActionSchema) DomainFault) → domain_of domain ≡ actions → (planned : Result (List PlannedStep) PlanFault) → plan_of plan ≡ planned
        → AllByRecursion IsTimed (result_unwrap_or (steps_in actions planned) [])
    by (Err fault) domain_is planned plan_is = tt
    by (Ok actions) domain_is (Err fault) plan_is = tt
    by (Ok actions) domain_is (Ok planned) plan_is = given actions planned domain_is plan_is (activities actions 0 planned) refl

-- ---- sources
-- a time lies from 0 to the horizon
abbrev IsWithin : ℤ → Type 0
IsWithin time = (pos 0 ≤ℤ time) × (time ≤ℤ horizon)

times_within : (steps : List Activity) → AllByRecursion IsTimed steps → AllByRecursion IsWithin (times_behind steps)
unfolding times_behind
times_within [] timed = tt
times_within (step ∷ steps) timed =
    let first : IsTimed step = timed.0 in
    let start : IsWithin step.time = search rules in
    let end : IsWithin (step.time +ℤ step.duration) = search rules in
    (start, (end, times_within steps timed.1))

-- at any place, 0 where the list has none
time_within : (times : List ℤ) → AllByRecursion IsWithin times → (place : ℕ) → IsWithin (slice_index_or times place (pos 0))
time_within times all place = grind (arith, common_steps)

-- the end of a step is its start and its duration
ends_at : (steps : List Activity) (place : ℕ) → place < length steps
    → slice_index_or (times_behind steps) (2 * place + 1) (pos 0) ≡ slice_index_or (times_behind steps) (2 * place) (pos 0) +ℤ duration_of steps place
unfolding times_behind
ends_at [] place within = absurd (omega arith)
ends_at (step ∷ steps) zero within = refl
ends_at (step ∷ steps) (suc place) within =
    let odd : 2 * suc place + 1 ≡ suc (suc (2 * place + 1)) = omega arith in
    let even : 2 * suc place ≡ suc (suc (2 * place)) = omega arith in
    rw (odd, even) (ends_at steps place (omega arith))

module _ (domain plan : List ℕ) where
  abbrev steps : List Activity
  steps = activities_of domain plan

  abbrev planned : ℕ → ℤ
  planned = times_of (event_times (activities_of domain plan))

  lasting : {place : ℕ} → place < length steps → planned (2 * place + 2) ≡ planned (2 * place + 1) +ℤ duration_of steps place
  lasting {place} below =
      let end : 2 * place + 2 ≡ suc (2 * place + 1) = omega arith in
      let start : 2 * place + 1 ≡ suc (2 * place) = omega arith in
      search (rules, ends_at)

  within : (event : ℕ) → event ≤ 2 * length steps → IsWithin (planned event)
  within event last = search (rules, time_within, times_within, activities_timed)

  -- what holds of the source of two texts
  files_sound : base_of (files domain plan) ≡ Ok (files domain plan) → length domain ≤ most_text → length plan ≤ most_text → IsSoundSource (files domain plan)
  files_sound based short_domain short_plan =
      search (rules, few_steps, first_horizons, all_named, few_bounds, planned_possible, within, lasting, order_keeps)

texts_sound : (domain plan : List ℕ) {made : PlanSource} (actions : Result (List ActionSchema) DomainFault) (planned : Result (List PlannedStep) PlanFault)
    → domain_of domain ≡ actions → plan_of plan ≡ planned → source_with (files domain plan) (steps_in actions planned) ≡ Ok made → IsSoundSource made
texts_sound domain plan (Err fault) planned domain_is plan_is is = cc
texts_sound domain plan (Ok actions) (Err fault) domain_is plan_is is = cc
texts_sound domain plan {made} (Ok actions) (Ok planned) domain_is plan_is is = by (activities actions 0 planned) refl is
  where
    by : (found : Result (List Activity) LiftFault) → activities actions 0 planned ≡ found → source_with (files domain plan) (of_lift found) ≡ Ok made
        → IsSoundSource made
    by (Ok steps) found h =
        let same : files domain plan ≡ made = cc in
        subst IsSoundSource same (files_sound domain plan (ap (source_with (files domain plan)) (lifted-Ok domain plan actions planned domain_is plan_is ∙ ap of_lift found))
        (domain-short domain actions domain_is) (plan_read plan plan_is).short)
    by (Err fault) found h = cc

bare_sound : (steps : ℕ) {made : PlanSource} {many : Bool} → nat_lt most_steps steps ≡ many → cond many (Err TooMany) (Ok (bare steps)) ≡ Ok made
    → IsSoundSource made
bare_sound steps e h = search (rules, sound_bare_source)

pub base_sound : (source made : PlanSource) → base_of source ≡ Ok made → IsSoundSource made
unfolding lifted
base_sound source made is = grind (arith, bare_sound, texts_sound)
