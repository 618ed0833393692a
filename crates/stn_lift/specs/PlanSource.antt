use Rattle.std.{specs.{Prelude.{◌≡◌, ◌⊎◌, ℕ, ℤ, pos, ◌*◌, ◌≤◌, Bool, true, false, nat_lt, if◌then◌else◌, List, [], length, All, take, Result, Ok, Err, refl}, Coded.{Coded, code_by, coded_ℕ, coded_list, coded×, coded⊎}, Result.result_unwrap_or}, proofs.Common.{inl, inr}}
use Rattle.stn_net.specs.{Event.most_steps, Difference.{Difference, NamesEvents}, Horizon.horizon_bounds, Schedule.{IsSchedule, times_of}}
use Rattle.stn_pddl.specs.{Tree.Scan.most_text, declared.fault.DomainFault.DomainFault, Schemas.ActionSchema, Domains.domain_of}
use Rattle.stn_lift.specs.{declared.{plan.fault.PlanFault.PlanFault, fault.{LiftFault.LiftFault, BaseFault.{BaseFault, TheVariants.{Domain, Plan, Lift, TooManySteps, Memory}}}, source.Source.{Source, TheVariants.{Bare, Files}}}, Plan.Steps.{PlannedStep, plan_of}, Activities.{Activity, activities}, BaseBounds.{lifted_bounds, event_times, events_interfere, KeepsOrder}}

-- what a plan is made from, as a value: a number of steps alone, or the texts of a domain and of a plan
pub data PlanSource : Type 0 where
  bare : ℕ → PlanSource
  files : List ℕ → List ℕ → PlanSource

-- what a source says
abbrev pub plan_source : {A : Type 0} → Source A → PlanSource
plan_source (Bare steps) = bare steps
plan_source (Files domain plan) = files domain.items plan.items

-- the fault of a step, as one of the base
abbrev pub of_lift : {X : Type 0} → Result X LiftFault → Result X BaseFault
of_lift (Ok x) = Ok x
of_lift (Err fault) = Err (Lift fault)

-- the steps of a plan in a domain, or the first fault: the domain's, then the plan's, then that of a step
abbrev pub steps_in : Result (List ActionSchema) DomainFault → Result (List PlannedStep) PlanFault → Result (List Activity) BaseFault
steps_in (Err fault) plan = Err (Domain fault)
steps_in (Ok actions) (Err fault) = Err (Plan fault)
steps_in (Ok actions) (Ok steps) = of_lift (activities actions 0 steps)

-- what the text of a plan does in the text of a domain, or the first fault
unfoldable pub lifted : List ℕ → List ℕ → Result (List Activity) BaseFault
lifted domain plan = steps_in (domain_of domain) (plan_of plan)

-- the steps, none where the texts have a fault
unfoldable pub activities_of : List ℕ → List ℕ → List Activity
activities_of domain plan = result_unwrap_or (lifted domain plan) []

-- the steps of the plan
abbrev pub steps_of : PlanSource → ℕ
steps_of (bare steps) = steps
steps_of (files domain plan) = length (activities_of domain plan)

-- its events beside the origin: the start and the end of each step
abbrev pub events_of : PlanSource → ℕ
events_of source = 2 * steps_of source

-- the bounds that the plan itself sets, in order: those of a bare plan are its horizon bounds
abbrev pub base_bounds : PlanSource → List Difference
base_bounds (bare steps) = horizon_bounds (2 * steps)
base_bounds (files domain plan) = lifted_bounds (activities_of domain plan)

-- the time at which the plan has an event
abbrev pub planned_of : PlanSource → ℕ → ℤ
planned_of (bare steps) event = pos 0
planned_of (files domain plan) event = times_of (event_times (activities_of domain plan)) event

-- two events of the plan interfere; those of a bare plan never do
abbrev pub interfere_in_plan : PlanSource → ℕ → ℕ → Bool
interfere_in_plan (bare steps) one other = false
interfere_in_plan (files domain plan) one other = events_interfere (activities_of domain plan) one other

-- the source, where what is made of it has no fault
abbrev pub source_with : {X F : Type 0} → PlanSource → Result X F → Result PlanSource F
source_with source (Ok x) = Ok source
source_with source (Err fault) = Err fault

-- the source, where it has a base, or its first fault
abbrev pub base_of : PlanSource → Result PlanSource BaseFault
base_of (bare steps) = if nat_lt most_steps steps then Err TooManySteps else Ok (bare steps)
base_of (files domain plan) = source_with (files domain plan) (lifted domain plan)

-- memory ran out
abbrev pub is_base_memory : BaseFault → Bool
is_base_memory Memory = true
is_base_memory fault = false

-- a plan has at most so many bounds of its own: 512 horizon bounds, 256 durations, and one bound for each pair of events of
-- different steps
abbrev pub most_base_bounds : ℕ
most_base_bounds = 131328

-- the texts that a source has are no longer than a domain or a plan may be
abbrev pub HasShortTexts : PlanSource → Type 0
HasShortTexts (bare steps) = Unit {0}
HasShortTexts (files domain plan) = (length domain ≤ most_text) × (length plan ≤ most_text)

-- what holds of each source that has a base: it has at most so many steps as a plan may have; its bounds begin with the horizon
-- bounds of all its events, name these events and are at most 131,328; the planned times are a schedule of them; in every
-- schedule events that interfere keep the plan's order; and its texts are short
pub record IsSoundSource (source : PlanSource) : Type 0 where
  pub based : base_of source ≡ Ok source
  pub small : steps_of source ≤ most_steps
  pub horizon : take (events_of source) (base_bounds source) ≡ horizon_bounds (events_of source)
  pub named : All (NamesEvents (events_of source)) (base_bounds source)
  pub few : length (base_bounds source) ≤ most_base_bounds
  pub possible : IsSchedule (base_bounds source) (planned_of source)
  pub ordered : KeepsOrder (events_of source) (interfere_in_plan source) (planned_of source) (base_bounds source)
  pub texts : HasShortTexts source

-- what a base keeps: its source has a base, and these are its steps, its bounds and the planned times of its events
pub record IsBase (source : PlanSource) (steps : ℕ) (bounds : List Difference) (planned : List ℤ) : Type 0 where
  pub counted : steps ≡ steps_of source
  pub listed : bounds ≡ base_bounds source
  pub timed : (event : ℕ) → times_of planned event ≡ planned_of source event
  pub sound : IsSoundSource source

-- a source as its number of steps or its two texts
abbrev pub source_parts : PlanSource → ℕ ⊎ (List ℕ × List ℕ)
source_parts (bare steps) = inl steps
source_parts (files domain plan) = inr (domain, plan)

abbrev pub source_of_parts : ℕ ⊎ (List ℕ × List ℕ) → PlanSource
source_of_parts (inl steps) = bare steps
source_of_parts (inr texts) = files texts.0 texts.1

pub source_of_parts-parts_of : (source : PlanSource) → source_of_parts (source_parts source) ≡ source
source_of_parts-parts_of (bare steps) = refl
source_of_parts-parts_of (files domain plan) = refl

abbrev pub coded_source : Coded PlanSource
coded_source = code_by (ℕ ⊎ (List ℕ × List ℕ)) (coded⊎ coded_ℕ (coded× (coded_list coded_ℕ) (coded_list coded_ℕ))) source_parts source_of_parts source_of_parts-parts_of
