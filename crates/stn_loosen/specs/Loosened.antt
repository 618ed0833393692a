-- The loosened plan: a bare plan with as many steps, and records that hold its durations with slack, and those of its orders that
-- the others don't imply.
use Rattle.std.specs.{Prelude.{◌≡◌, ℕ, ◌*◌, ◌<◌, ◌≤◌, ◌⊎◌, ℤ, ◌-ℤ◌, List, [], ◌∷◌, ◌++◌, length, map}, List.Sorted.{IsPermutation, IsSortedByKey, IsStableByKey}, Ordering.int_cmp}
use Rattle.stn_net.specs.{Difference.Difference, Schedule.{Meets, IsSchedule, times_of}}
use Rattle.stn_lift.specs.{BaseBounds.{duration_of, duration_bounds, orders, events_interfere, event_times}, PlanSource.{PlanSource, bare, files, steps_of, planned_of, activities_of, base_bounds}}
use Rattle.stn_records.specs.Content.{most_known}
use Rattle.stn_loosen.specs.Slack.{Slack, loose}

-- the bounds that the plan sets on the durations of its steps, in their order
abbrev pub durations_of : PlanSource → List Difference
durations_of (bare steps) = []
durations_of (files domain plan) =
    let steps = activities_of domain plan in
    duration_bounds (duration_of steps) (length steps)

-- its orders, in their order
abbrev pub orders_of : PlanSource → List Difference
orders_of (bare steps) = []
orders_of (files domain plan) =
    let steps = activities_of domain plan in
    orders (events_interfere steps) (times_of (event_times steps)) (2 * length steps) (2 * length steps)

-- how long after the first event of an order its second one is planned
abbrev pub gap : (ℕ → ℤ) → Difference → ℤ
gap planned order = planned order.to -ℤ planned order.from

-- the orders, nearest planned times first; those that are as near stay in their order
pub record AreNearestFirst (planned : ℕ → ℤ) (orders sorted : List Difference) : Type 0 where
  pub same : IsPermutation orders sorted
  pub nearest : IsSortedByKey (gap planned) int_cmp sorted
  pub stable : IsStableByKey (gap planned) int_cmp orders sorted

-- the bounds imply another: each of their schedules meets it
abbrev pub Imply : List Difference → Difference → Type 0
Imply bounds bound = (time : ℕ → ℤ) → IsSchedule bounds time → Meets time bound

-- what is kept of orders, beside some bounds: each one that these and those kept before it don't imply
abbrev pub AreKept : List Difference → List Difference → List Difference → Type 0
AreKept bounds [] kept = kept ≡ []
AreKept bounds (order ∷ orders) kept =
    (Imply bounds order × AreKept bounds orders kept)
    ⊎ (¬ Imply bounds order × ((others : List Difference) × (kept ≡ order ∷ others) × AreKept (bounds ++ order ∷ []) orders others))

-- the bounds of the bare plan of as many steps, and then those of records
abbrev pub bounds_with : PlanSource → List Difference → List Difference
bounds_with source records = base_bounds (bare (steps_of source)) ++ records

-- the durations with slack
abbrev pub loose_durations : Slack → PlanSource → List Difference
loose_durations slack source = map (loose slack) (durations_of source)

-- the records made of the durations, and of some orders
pub record AreMadeOf (source : PlanSource) (slack : Slack) (orders records : List Difference) : Type 0 where
  pub kept : List Difference
  pub whole : records ≡ loose_durations slack source ++ kept
  pub chosen : AreKept (bounds_with source (loose_durations slack source)) orders kept

-- the records of the loosened plan, in the order in which they are made
pub record AreLoosened (source : PlanSource) (slack : Slack) (records : List Difference) : Type 0 where
  pub orders : List Difference
  pub sorted : AreNearestFirst (planned_of source) (orders_of source) orders
  pub made : AreMadeOf source slack orders records

-- the same, where a site may know as many
abbrev pub AreFewLoosened : PlanSource → Slack → List Difference → Type 0
AreFewLoosened source slack records = AreLoosened source slack records × (length records ≤ most_known)

-- they would be too many: already those made of the first orders are more than a site may know
pub record AreTooMany (source : PlanSource) (slack : Slack) : Type 0 where
  pub first : List Difference
  pub others : List Difference
  pub sorted : AreNearestFirst (planned_of source) (orders_of source) (first ++ others)
  pub records : List Difference
  pub made : AreMadeOf source slack first records
  pub many : most_known < length records
