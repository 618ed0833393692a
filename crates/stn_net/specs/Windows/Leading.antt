-- For proofs alone: no public clause cites these words.
-- What the differences of the events say about which of them may come first.
use Rattle.std.specs.{Prelude.{◌≡◌, ◌⊎◌, ℕ, ℤ, pos, neg_ℤ, ◌==◌, ◌<◌, ◌≤◌, ◌≤ℤ◌, ◌<ℤ◌, Bool, int_le, if◌then◌else◌, List, length, ◌+◌, All, count_by, Option, Some, None}, List.Contains}
use Rattle.stn_time.specs.Time.{horizon}
use Rattle.stn_net.specs.{Difference.{Difference, NamesEvents}, Windows.{Dispatch.{IsLeft, ComesFirst}, Soonest.{AreEarliest, AreLatest, AreSoonest}}}

-- the earliest time of an event
abbrev pub earliest : (ℕ → ℕ → ℤ) → ℕ → ℤ
earliest far event = neg_ℤ (far event 0)

-- no event that is left has to come before the event
abbrev pub MayLead : (ℕ → ℕ → ℤ) → List Bool → ℕ → Type 0
MayLead far done event = (other : ℕ) → IsLeft done other → pos 0 ≤ℤ far event other

-- the latest time of each event that is left is at least the time
abbrev pub NonePast : (ℕ → ℤ) → List Bool → ℤ → Type 0
NonePast latest done time = (event : ℕ) → IsLeft done event → time ≤ℤ latest event

-- the event is left, its earliest time has come, and no other has to come before it
pub record CanLead (far : ℕ → ℕ → ℤ) (done : List Bool) (now : ℤ) (event : ℕ) : Type 0 where
  pub left : IsLeft done event
  pub come : earliest far event ≤ℤ now
  pub leads : MayLead far done event

-- the time is the least of the latest times of the events that are left
pub record IsLeastLatest (latest : ℕ → ℤ) (done : List Bool) (time : ℤ) : Type 0 where
  pub at : (event : ℕ) × IsLeft done event × (latest event ≡ time)
  pub least : NonePast latest done time

-- the event is the least of those that are left and whose latest time comes before now
pub record IsFirstPast (latest : ℕ → ℤ) (done : List Bool) (now : ℤ) (event : ℕ) : Type 0 where
  pub left : IsLeft done event
  pub past : latest event <ℤ now
  pub first : (other : ℕ) → IsLeft done other → latest other <ℤ now → event ≤ other

-- the run is that of the least event that can lead, now
pub record IsLeastLeader (far : ℕ → ℕ → ℤ) (done : List Bool) (now : ℤ) (run : ℤ × ℕ) : Type 0 where
  pub at : run.0 ≡ now
  pub leads : CanLead far done now run.1
  pub first : (other : ℕ) → CanLead far done now other → run.1 ≤ other

-- the run is that of an event that is left, at its time, and comes first among those of all events that are left and have numbers below
-- the limit
pub record IsEarliestBelow (times : ℕ → ℤ) (done : List Bool) (limit : ℕ) (run : ℤ × ℕ) : Type 0 where
  pub left : IsLeft done run.1
  pub below : run.1 < limit
  pub at : run.0 ≡ times run.1
  pub first : (other : ℕ) → other < limit → IsLeft done other → ComesFirst run.0 run.1 (times other) other

-- the same, where there is such an event
abbrev pub IsEarliestSoFar : (ℕ → ℤ) → List Bool → ℕ → Option (ℤ × ℕ) → Type 0
IsEarliestSoFar times done limit None = (event : ℕ) → event < limit → ¬ IsLeft done event
IsEarliestSoFar times done limit (Some run) = IsEarliestBelow times done limit run

-- the run is the first of all that are left by earliest time, and no event can lead now; or that of the least event that can; there is
-- none where no event is left
abbrev pub IsFirstRun : (ℕ → ℕ → ℤ) → List Bool → ℤ → Option (ℤ × ℕ) → Type 0
IsFirstRun far done now None = (event : ℕ) → ¬ IsLeft done event
IsFirstRun far done now (Some run) =
    IsLeastLeader far done now run ⊎ (IsEarliestBelow (earliest far) done (length done) run × ((event : ℕ) → ¬ CanLead far done now event))

-- the run of the lesser time; the first, where both have one time
abbrev pub earlier_of : Option (ℤ × ℕ) → ℤ × ℕ → ℤ × ℕ
earlier_of None run = run
earlier_of (Some first) run = if int_le first.0 run.0 then first else run

-- the bound that says that the event comes at the time or later
abbrev pub floor_at : ℤ → ℕ → Difference
floor_at time event = record { from = 0; to = event; lo = time; hi = horizon }

-- these are such bounds of the events that are left and have numbers below the limit
pub record AreFloorsBelow (done : List Bool) (now : ℤ) (limit : ℕ) (floors : List Difference) : Type 0 where
  pub each : All (λ floor. IsLeft done floor.to × (floor ≡ floor_at now floor.to)) floors
  pub every : (event : ℕ) → event < limit → IsLeft done event → Contains floors (floor_at now event)

-- the run has the lesser time, or the same and no greater number
abbrev pub RunsBefore : ℤ × ℕ → ℤ × ℕ → Type 0
RunsBefore run other = ComesFirst run.0 run.1 other.0 other.1

-- the runs are those of the events that are left and have numbers below the limit, each at its time
pub record AreRunsBelow (times : ℕ → ℤ) (done : List Bool) (limit : ℕ) (runs : List (ℤ × ℕ)) : Type 0 where
  pub at : All (λ run. IsLeft done run.1 × (run.0 ≡ times run.1)) runs
  pub once : (event : ℕ) → event < limit → IsLeft done event → count_by (λ run. run.1 == event) runs ≡ 1
  pub others : (event : ℕ) → limit ≤ event → count_by (λ run. run.1 == event) runs ≡ 0

-- the earliest times of a plan's events, the least of the latest of those that are left, and the soonest times from then on
pub record AreReadyAt (bounds : List Difference) (events : ℕ) (done : List Bool) (early late times : ℕ → ℤ) (last : ℤ) : Type 0 where
  pub named : All (NamesEvents events) bounds
  pub one_each : length done ≡ events + 1
  pub earliest : AreEarliest bounds events early
  pub latest : AreLatest bounds events late
  pub least : IsLeastLatest late done last
  pub soonest : AreSoonest bounds done last times
