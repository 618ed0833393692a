-- What is asked for, the loosened plan or the robust plan: its records, what its bounds keep, what a site holds of it, and why there is none.
use Rattle.std.specs.Prelude.{◌≡◌, ◌⊎◌, ◌≤◌, ℕ, ℤ, Bool, true, false, List, length, All, Option, Some, None, Ok, Err}
use Rattle.stn_refusal.specs.{declared.{code.Code.TheVariants.{Full, NotRobust}, failure.Failure.Failure}, Refusals.{refused, out_of_memory}}
use Rattle.stn_net.specs.{Difference.Difference, Schedule.IsSchedule}
use Rattle.stn_lift.specs.{BaseBounds.KeepsOrder, PlanSource.{PlanSource, bare, base_of, base_bounds, steps_of, events_of, interfere_in_plan, planned_of}, Failures.base_failure, declared.fault.BaseFault.BaseFault}
use Rattle.stn_records.specs.Content.{Content, most_known}
use Rattle.stn_site.specs.Bounds.{all_bounds}
use Rattle.stn_loosen.specs.{Slack.Slack, Loosened.{orders_of, loose_durations, Imply, AreLoosened, AreFewLoosened, AreTooMany}, Promise.Promises, Robust.{loose_bounds, HasPromise, AreRobust, AreFewRobust, AreTooManyRobust}, Numbered.HoldsSome}

-- the records of the one that is asked for: where it is to be robust, those of the robust plan
abbrev pub AreRecords : Bool → PlanSource → Slack → List Difference → Type 0
AreRecords false = AreLoosened
AreRecords true = AreRobust

-- the same, where a site may know as many
abbrev pub AreFewRecords : Bool → PlanSource → Slack → List Difference → Type 0
AreFewRecords robust source slack records = AreRecords robust source slack records × (length records ≤ most_known)

-- bounds keep a plan: each schedule of the plan is one of theirs; they imply each order of the plan; and in each of their schedules events
-- that interfere keep the plan's order
pub record KeepPlan (source : PlanSource) (bounds : List Difference) : Type 0 where
  pub looser : (time : ℕ → ℤ) → IsSchedule (base_bounds source) time → IsSchedule bounds time
  pub implied : All (Imply bounds) (orders_of source)
  pub ordered : KeepsOrder (events_of source) (interfere_in_plan source) (planned_of source) bounds

-- bounds keep a promise: there is one; each of their schedules is a promise of them, whose starts hold, however long the steps take; and
-- each is a schedule of the loosened plan
pub record KeepPromise (source : PlanSource) (slack : Slack) (bounds : List Difference) : Type 0 where
  pub promise : HasPromise source slack
  pub promised : (time : ℕ → ℤ) → IsSchedule bounds time → Promises (loose_durations slack source) bounds time
  pub loosened : (time : ℕ → ℤ) → IsSchedule bounds time → IsSchedule (loose_bounds source slack) time

-- what the bounds keep of the one that is asked for
abbrev pub Keep : Bool → PlanSource → Slack → List Difference → Type 0
Keep false source slack = KeepPlan source
Keep true source slack = KeepPromise source slack

-- a site holds it, over the bare plan of as many steps: its records, and nothing else
pub record IsLoosened (robust : Bool) (source : PlanSource) (slack : Slack) (site : ℕ) (state : Content) : Type 0 where
  pub base : base_of source ≡ Ok source
  pub records : HoldsSome (AreFewRecords robust source slack) site state
  pub keep : Keep robust source slack (all_bounds (bare (steps_of source)) state)

-- a loosened plan that would have more records than a site may know is refused
abbrev pub IsLoosenedRefusal : PlanSource → Slack → Option Failure → Type 0
IsLoosenedRefusal source slack cause = (AreTooMany source slack × (cause ≡ Some (refused Full)))
    ⊎ (((records : List Difference) × AreFewLoosened source slack records) × (cause ≡ None))

-- of a robust plan: so is a loosened plan with too many; then one without a promise; then a robust plan with too many
abbrev pub IsRobustRefusal : PlanSource → Slack → Option Failure → Type 0
IsRobustRefusal source slack cause = (AreTooMany source slack × (cause ≡ Some (refused Full)))
    ⊎ (((records : List Difference) × AreFewLoosened source slack records) × (¬ HasPromise source slack)
    × (cause ≡ Some (refused NotRobust)))
    ⊎ (HasPromise source slack × AreTooManyRobust source slack × (cause ≡ Some (refused Full)))
    ⊎ (HasPromise source slack × ((records : List Difference) × AreFewRobust source slack records) × (cause ≡ None))

abbrev pub IsAskedRefusal : Bool → PlanSource → Slack → Option Failure → Type 0
IsAskedRefusal false = IsLoosenedRefusal
IsAskedRefusal true = IsRobustRefusal

-- the failure is that cause, or lack of memory, which may come in place of any answer
abbrev pub IsAskedFailure : Bool → PlanSource → Slack → Failure → Type 0
IsAskedFailure robust source slack failure = (failure ≡ out_of_memory) ⊎ IsAskedRefusal robust source slack (Some failure)

-- first, that the source has no base
abbrev pub WithBase : PlanSource → (Option Failure → Type 0) → Option Failure → Type 0
WithBase source Goes cause = ((fault : BaseFault) × (base_of source ≡ Err fault) × (cause ≡ Some (base_failure fault)))
    ⊎ ((base_of source ≡ Ok source) × Goes cause)

abbrev pub IsLooseningRefusal : Bool → PlanSource → Slack → Option Failure → Type 0
IsLooseningRefusal robust source slack = WithBase source (IsAskedRefusal robust source slack)
