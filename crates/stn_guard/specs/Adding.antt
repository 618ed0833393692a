-- Adding the guard of what a site holds to what it holds.
use Rattle.std.specs.{Prelude.{◌≡◌, ℕ, zero, suc, ◌+◌, nat_lt, true, false, if◌then◌else◌, List, [], ◌∷◌, length, map, Option, Some, None}, Bool.then_some, Option.option_or}
use Rattle.stn_net.specs.{Difference.Difference, declared.bound.BoundFault.TheVariants.NoEvent, Schedule.HasSchedule}
use Rattle.stn_lift.specs.PlanSource.{steps_of, events_of}
use Rattle.stn_records.specs.{Id.{SiteCounter, most_counter}, Content.{most_known, known_count, next_counter}}
use Rattle.stn_site.specs.{declared.{faults.ReplicaFault.{ReplicaFault, TheVariants.{Bound, CounterSpent, Full}}, own.OwnedSteps.OwnedSteps}, Bounds.all_bounds, Held.{Held, plain}, Calls.{added, AllLeave}, Own.{has, are_within}}
use Rattle.stn_guard.specs.Making.{IsGuardOf}

-- the owner of an event: the site of the first of these that has the event's step, or else this site
abbrev pub owner_by : ℕ → List OwnedSteps → ℕ → ℕ
owner_by site [] event = site
owner_by site (owned ∷ rest) event = if has owned.steps event then owned.site else owner_by site rest event

-- the guard of all bounds of a site
abbrev pub IsGuardAt : List OwnedSteps → Held → List Difference → Type 0
IsGuardAt owned held guard = IsGuardOf (owner_by held.site owned) (events_of held.source) (all_bounds held.source held.state) guard

-- the site can't make so many records more: its counter would be spent, it would know more ids than it may
abbrev pub records_refusal : Held → ℕ → Option ReplicaFault
records_refusal held zero = None
records_refusal held (suc more) =
    option_or (then_some (nat_lt most_counter (next_counter held.state held.site + more)) CounterSpent)
    (then_some (nat_lt most_known (known_count held.state + suc more)) Full)

-- the first cause that refuses the guard: the plan lacks a step that is owned; the records of the guard can't be made. Nothing refuses
-- it where all bounds have no schedule
pub data IsGuardRefusal (owned : List OwnedSteps) (held : Held) (cause : Option ReplicaFault) : Type 0 where
  no_step : are_within (steps_of held.source) owned ≡ false → cause ≡ Some (Bound NoEvent) → IsGuardRefusal owned held cause
  conflict : are_within (steps_of held.source) owned ≡ true → ¬ HasSchedule (all_bounds held.source held.state) → cause ≡ None
      → IsGuardRefusal owned held cause
  guarded : are_within (steps_of held.source) owned ≡ true → HasSchedule (all_bounds held.source held.state)
      → (guard : List Difference) → IsGuardAt owned held guard → cause ≡ records_refusal held (length guard) → IsGuardRefusal owned held cause

-- the site added a plain record of each of the bounds, one after the other, under these ids
pub record AddsEach (old : Held) (bounds : List Difference) (ids : List SiteCounter) (new : Held) : Type 0 where
  pub records : List (SiteCounter × Difference)
  pub bounds_are : bounds ≡ map (λ one. one.1) records
  pub ids_are : ids ≡ map (λ one. one.0) records
  pub leave : AllLeave old (map (λ one. added one.0 (plain one.1)) records) new

-- the site added the guard of what it held, under these ids
pub record AddsGuard (owned : List OwnedSteps) (old : Held) (ids : List SiteCounter) (new : Held) : Type 0 where
  pub possible : HasSchedule (all_bounds old.source old.state)
  pub guard : List Difference
  pub is_guard : IsGuardAt owned old guard
  pub adds : AddsEach old guard ids new
