-- The robust plan: the loosened plan, and bounds on starts under which it completes however long its steps take.
use Rattle.std.specs.Prelude.{◌≡◌, ◌++◌, ◌<◌, ◌≤◌, ℕ, ℤ, List, length}
use Rattle.stn_net.specs.{Difference.Difference, Horizon.horizon_bounds}
use Rattle.stn_lift.specs.PlanSource.{PlanSource, events_of}
use Rattle.stn_records.specs.Content.{most_known}
use Rattle.stn_loosen.specs.{Slack.Slack, Promise.Promises, Moved.moved_bounds, Loosened.{orders_of, bounds_with, loose_durations, AreKept, AreLoosened}}

-- all bounds of the loosened plan, also the orders that others imply
abbrev pub loose_bounds : PlanSource → Slack → List Difference
loose_bounds source slack = bounds_with source (loose_durations slack source ++ orders_of source)

-- the plan has a promise: times for its starts such that, however long its steps take, these times and those of the ends are a schedule
-- of the loosened plan
abbrev pub HasPromise : PlanSource → Slack → Type 0
HasPromise source slack = (promised : ℕ → ℤ) × Promises (loose_durations slack source) (loose_bounds source slack) promised

-- the records of the robust plan, in the order in which they are made: those of the loosened plan, and then those of the moved sides of its
-- orders and of its horizon that are not implied by then
pub record AreRobust (source : PlanSource) (slack : Slack) (records : List Difference) : Type 0 where
  pub loosened : List Difference
  pub are_loosened : AreLoosened source slack loosened
  pub moved : List Difference
  pub whole : records ≡ loosened ++ moved
  pub chosen : AreKept (bounds_with source loosened)
      (moved_bounds (loose_durations slack source) (are_loosened.made.kept ++ horizon_bounds (events_of source))) moved

-- the same, where a site may know as many
abbrev pub AreFewRobust : PlanSource → Slack → List Difference → Type 0
AreFewRobust source slack records = AreRobust source slack records × (length records ≤ most_known)

-- they would be too many, while those of the loosened plan are not
pub record AreTooManyRobust (source : PlanSource) (slack : Slack) : Type 0 where
  pub records : List Difference
  pub are_robust : AreRobust source slack records
  pub few_loosened : length are_robust.loosened ≤ most_known
  pub many : most_known < length records
