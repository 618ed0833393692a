-- For proofs alone: no public clause cites these words.
use Rattle.std.specs.Prelude.{◌≡◌, ℕ, ℤ, pos, neg_ℤ, ◌*ℤ◌, ◌≤ℤ◌, suc, ◌+◌, ◌<◌, ◌≤◌, ◌↔◌, List, length, take, All, Option, Some, None, is_some, count_by, slice_index_or}
use Rattle.stn_time.specs.Time.{horizon}
use Rattle.stn_net.specs.{Difference.Difference, Schedule.HasSchedule}
use Rattle.stn_conflict.specs.{declared.{levels.Walk.Walk, links.{Link.Link, Side.{Side, TheVariants.{Upper, Lower}}}}, Arcs.{arc_of, weight_of, IsNegativeCycle}, Named.{IsTight, IsLevel, IsLevelStep, IsFirstStep, IsNamedCycle}}

-- the level that a table has of an event, if it has one yet
abbrev pub level_at : List (Option ℕ) → ℕ → Option ℕ
level_at levels event = slice_index_or levels event None

-- the event at a place of those that a walk has reached
abbrev pub event_at : List ℕ → ℕ → ℕ
event_at reached place = slice_index_or reached place 0

-- a tight link to an event without a level
pub record LeadsOn (bounds : List Difference) (start : ℕ) (levels : ℕ → Option ℕ) (link : Link) : Type 0 where
  pub tight : IsTight bounds start link
  pub to : levels (arc_of bounds link).to ≡ None

-- the link leads to a level that is higher than this one by one at most
abbrev pub IsFollowed : List Difference → (ℕ → Option ℕ) → Link → ℕ → Type 0
IsFollowed bounds levels link level = (k : ℕ) × (levels (arc_of bounds link).to ≡ Some k) × (k ≤ suc level)

-- a walk over tight links from `start`, breadth first (Moore, 1959): the events that have a level, in the order in which they got it, and the
-- tight links from the first `seen` of them followed
pub record IsWalk (bounds : List Difference) (start seen : ℕ) (levels : ℕ → Option ℕ) (reached : List ℕ) : Type 0 where
  pub zero_at_start : levels start ≡ Some 0
  pub only : (x : ℕ) → levels x ≡ Some 0 → x ≡ start
  pub back : (x i : ℕ) → levels x ≡ Some (suc i)
      → (link : Link) × IsTight bounds start link × ((arc_of bounds link).to ≡ x) × (levels (arc_of bounds link).from ≡ Some i)
  pub every : (x i : ℕ) → levels x ≡ Some i → (k : ℕ) × (k < length reached) × (event_at reached k ≡ x)
  pub each : (k : ℕ) → k < length reached → (i : ℕ) × (levels (event_at reached k) ≡ Some i) × (i ≤ k)
  pub rising : (j k i m : ℕ) → j ≤ k → k < length reached → levels (event_at reached j) ≡ Some i → levels (event_at reached k) ≡ Some m → i ≤ m
  pub near : (k i m : ℕ) → seen < length reached → k < length reached → levels (event_at reached seen) ≡ Some i → levels (event_at reached k) ≡ Some m → m ≤ suc i
  pub followed : (k i : ℕ) → k < seen → levels (event_at reached k) ≡ Some i → (link : Link) → IsTight bounds start link
      → (arc_of bounds link).from ≡ event_at reached k → IsFollowed bounds levels link i

-- a walk among so many events, each of which got its level once
pub record IsWalkOf {A : Type 0} (bounds : List Difference) (start count seen : ℕ) (walk : Walk A) : Type 0 where
  pub whole : length walk.levels.items ≡ count
  pub counted : length walk.reached.items ≤ count_by is_some walk.levels.items
  pub steps : IsWalk bounds start seen (level_at walk.levels.items) walk.reached.items

-- each entry is its event's level, each of the first so many events has one, and a step leads to each level but the start's
pub record HasLevels (bounds : List Difference) (start count : ℕ) (levels : ℕ → Option ℕ) : Type 0 where
  pub level : (x level : ℕ) → (levels x ≡ Some level) ↔ IsLevel bounds start x level
  pub every : (x : ℕ) → x < count → (level : ℕ) × (levels x ≡ Some level)
  pub most : (x level : ℕ) → levels x ≡ Some level → level < count
  pub back : (x i : ℕ) → levels x ≡ Some (suc i)
      → (link : Link) × IsTight bounds start link × ((arc_of bounds link).to ≡ x) × (levels (arc_of bounds link).from ≡ Some i)

-- a table of so many events' levels
pub record AreLevels (bounds : List Difference) (start count : ℕ) (table : List (Option ℕ)) : Type 0 where
  pub whole : length table ≡ count
  pub levels : HasLevels bounds start count (level_at table)

-- the other side of a bound
abbrev pub other_side : Side → Side
other_side Upper = Lower
other_side Lower = Upper

-- the link of the other side of the bound
abbrev pub across : Link → Link
across link = record { place = link.place; side = other_side link.side }

-- no step leads to the event
abbrev pub HasNoStep : List Difference → ℕ → ℕ → Type 0
HasNoStep bounds start event = (link : Link) → (arc_of bounds link).to ≡ event → ¬ IsLevelStep bounds start link

-- the link is the first step to the event
pub record IsFirstStepTo (bounds : List Difference) (start event : ℕ) (link : Link) : Type 0 where
  pub first : IsFirstStep bounds start link
  pub ends : (arc_of bounds link).to ≡ event

-- the bounds have a schedule before this place, and none with the bound at it
pub record IsFirstRefused (bounds : List Difference) (events place : ℕ) : Type 0 where
  pub there : place < length bounds
  pub past : events ≤ place
  pub before : HasSchedule (take place bounds)
  pub refused : ¬ HasSchedule (take (place + 1) bounds)

-- a named cycle of bounds about so many events, with its sum
pub record IsCycleOf (bounds : List Difference) (events : ℕ) (links : List Link) (sum : ℤ) : Type 0 where
  pub named : IsNamedCycle bounds links
  pub negative : IsNegativeCycle bounds links
  pub sum_is : sum ≡ weight_of bounds links
  pub least : neg_ℤ (pos 2 *ℤ horizon) ≤ℤ sum
  pub places : All (λ link. link.place < length bounds) links
  pub short : length links ≤ events + 1
