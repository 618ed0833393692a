-- The base of a plan in a domain.
use Rattle.std.{proofs.{Common.{rules, ◌≡◌, ℕ, ◌≤◌, ℤ, List, length, Ok, sym, ap, ◌∙◌, arith}, lemmas.List.length-map}}
use Rattle.stn_net.specs.{Event.most_steps, Schedule.times_of}
use Rattle.stn_pddl.specs.{Schemas.ActionSchema, Domains.domain_of}
use Rattle.stn_lift.{specs.{Plan.Steps.{PlannedStep, plan_of}, Footprints.Footprint, Activities.{Activity, activities}, BaseBounds.{event_times, lifted_bounds}, Timelines.{IsLifted, IsWholeTimeline, numbered_bounds}, PlanSource.{files, of_lift, base_of, source_with, activities_of, IsBase}}, proofs.{SoundSource.base_sound, Steps.length-activities, Texts.{lifted-Ok, texts_lifted}}}

module _ (steps : List Activity) (durations times : List ℤ) (footprints : List (Footprint ℕ)) (made : IsLifted steps durations times footprints) where
  counted : length durations ≡ length steps
  counted = search (rules, length-map)

  -- the bounds by numbers are the bounds by atoms
  same_bounds : numbered_bounds durations times footprints ≡ lifted_bounds steps
  same_bounds = search (rules, counted)

  pub is_whole : length steps ≤ most_steps → IsWholeTimeline durations times footprints
  is_whole small = omega (arith, counted)

  module _ (domain plan : List ℕ) (actions : List ActionSchema) (planned : List PlannedStep) (domain_is : domain_of domain ≡ Ok actions) (plan_is : plan_of plan ≡ Ok planned)
      (found : activities actions 0 planned ≡ Ok steps) where
    lifted_steps : activities_of domain plan ≡ steps
    lifted_steps = texts_lifted domain plan actions planned steps domain_is plan_is found

    -- the texts have a base
    based_lifted : base_of (files domain plan) ≡ Ok (files domain plan)
    based_lifted = ap (source_with (files domain plan)) (lifted-Ok domain plan actions planned domain_is plan_is ∙ ap of_lift found)

    -- such a base keeps what it should
    pub base_lifted : IsBase (files domain plan) (length durations) (numbered_bounds durations times footprints) times
    base_lifted = record {
      counted = counted ∙ ap length (sym lifted_steps);
      listed = same_bounds ∙ ap lifted_bounds (sym lifted_steps);
      timed = λ event. ap (λ ts. times_of ts event) (made.timed ∙ ap event_times (sym lifted_steps));
      sound = base_sound (files domain plan) (files domain plan) based_lifted;
    }

-- a plan that fits its domain has few enough steps
pub few_found : (actions : List ActionSchema) (planned : List PlannedStep) {steps : List Activity} → activities actions 0 planned ≡ Ok steps → length planned ≤ most_steps → length steps ≤ most_steps
few_found actions planned found few = omega (arith, length-activities)
