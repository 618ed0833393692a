-- How long the steps of a plan last, by its bounds.
use Rattle.std.{proofs.{Common.{rules, ◌≡◌, ℕ, ◌*◌, ◌<◌, ◌≤◌, List, [], ◌++◌, length, drop, get_or, Result, Ok, length-append, length-drop}, lemmas.List.{get_or-drop, get_or_append_left, get_or-append_right}}, specs.Result.result_unwrap_or}
use Rattle.stn_lift.{proofs.{FewBounds.{length-duration_bounds, duration_at}, Steps.length-activities}, specs.{declared.{plan.fault.PlanFault.PlanFault, fault.BaseFault.BaseFault}, Plan.Steps.{PlannedStep, plan_of}, Activities.Activity, BaseBounds.{duration_of, lifted_bounds}, PlanSource.{files, steps_in, lifted, activities_of, source_with, base_of, base_bounds, events_of, IsSoundSource}}}
use Rattle.stn_net.{specs.Difference.Difference, proofs.Horizons.length-horizon_bounds}
use Rattle.stn_pddl.specs.{declared.fault.DomainFault.DomainFault, Schemas.ActionSchema, Domains.domain_of}
use Rattle.stn_questions.specs.{Steps.planned_steps, Durations.{least_of, AreDurations}}

-- a step in each place
same_count : (actions : Result (List ActionSchema) DomainFault) (plan : Result (List PlannedStep) PlanFault) (found : List Activity)
    → steps_in actions plan ≡ Ok found → length (result_unwrap_or plan []) ≡ length found
same_count actions plan found e = search (rules, length-activities)

-- the texts of a base have no fault
has_base : (domain plan : List ℕ) (found : Result (List Activity) BaseFault) → source_with (files domain plan) found ≡ Ok (files domain plan)
    → (some : List Activity) × (found ≡ Ok some)
has_base domain plan found e = search rules

one_step_each : (domain plan : List ℕ) → base_of (files domain plan) ≡ Ok (files domain plan) → length (planned_steps plan) ≡ length (activities_of domain plan)
unfolding lifted activities_of
one_step_each domain plan based =
    let found = has_base domain plan (lifted domain plan) based in
    cc (same_count (domain_of domain) (plan_of plan) found.0 found.1)

pub plan_was_read : (domain plan : List ℕ) → base_of (files domain plan) ≡ Ok (files domain plan) → plan_of plan ≡ Ok (planned_steps plan)
unfolding lifted
plan_was_read domain plan based = search rules

-- after the horizon bounds come those of the durations
bounds_last : (first middle last : List Difference) (events place : ℕ) (d : Difference) → length first ≡ events → place < length middle
    → get_or (drop events ((first ++ middle) ++ last)) place d ≡ get_or middle place d
bounds_last first middle last events place d count within = search (rules, get_or-drop, get_or_append_left, length-append, get_or-append_right)

lifted_last : (steps : List Activity) (events place : ℕ) → events ≡ 2 * length steps → place < length steps
    → least_of (drop events (lifted_bounds steps)) place ≡ duration_of steps place
lifted_last steps events place e within = search (rules, bounds_last, length-horizon_bounds, length-duration_bounds, duration_at)

lifted_length : (steps : List Activity) (events : ℕ) → events ≡ 2 * length steps → length steps ≤ length (drop events (lifted_bounds steps))
lifted_length steps events e = search (rules, length-drop, length-append, length-horizon_bounds, length-duration_bounds)

-- what lies after the horizon bounds of a plan in a domain
pub durations_last : (domain plan : List ℕ) (events : ℕ) → events ≡ events_of (files domain plan) → IsSoundSource (files domain plan)
    → AreDurations domain plan (drop events (base_bounds (files domain plan)))
durations_last domain plan events e sound = search (rules, one_step_each, lifted_length, lifted_last)
