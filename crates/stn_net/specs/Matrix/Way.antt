-- For proofs alone: no public clause cites these words.
use Rattle.std.specs.{Prelude.{◌≡◌, ◌≢◌, ◌⊎◌, ℕ, ℤ, ◌+◌, ◌*◌, ◌≤◌, ◌<◌, ◌+ℤ◌, ◌≤ℤ◌, neg_ℤ, List, length, slice_index_or, All, Contains}, Int.int_min}
use Rattle.stn_time.specs.Time.{horizon}
use Rattle.stn_net.specs.{Difference.Difference, Event.most_events, Matrix.Table.Square}

-- there are no more than the most events, and an entry for each row and each column
pub record IsWholeSquare (square : Square) : Type 0 where
  pub few : square.events ≤ most_events
  pub entries : length square.entries ≡ (square.events + 1) * (square.events + 1)

-- the lesser of the difference of x and y and of that by way of v, which lies at most w after u
abbrev pub shorter : (ℕ → ℕ → ℤ) → ℕ → ℕ → ℤ → ℕ → ℕ → ℤ
shorter far u v w x y = int_min (far x y) ((far x u +ℤ w) +ℤ far v y)

-- the differences by way of both sides of a bound: of the upper, and then of the lower
abbrev pub narrower : (ℕ → ℕ → ℤ) → Difference → ℕ → ℕ → ℤ
narrower far bound = shorter (shorter far bound.from bound.to bound.hi) bound.to bound.from (neg_ℤ bound.lo)

-- the differences are no looser than the bound
pub record IsImplied (far : ℕ → ℕ → ℤ) (bound : Difference) : Type 0 where
  pub upper : far bound.from bound.to ≤ℤ bound.hi
  pub lower : far bound.to bound.from ≤ℤ neg_ℤ bound.lo

-- some time between the tightest differences of its events meets the bound
pub record HasRoom (far : ℕ → ℕ → ℤ) (bound : Difference) : Type 0 where
  pub upper : neg_ℤ bound.hi ≤ℤ far bound.to bound.from
  pub lower : bound.lo ≤ℤ far bound.from bound.to

-- the difference is no more than twice the horizon, on either side of zero
abbrev pub IsWithinTwoHorizons : ℤ → Type 0
IsWithinTwoHorizons millis = (neg_ℤ (horizon +ℤ horizon) ≤ℤ millis) × (millis ≤ℤ (horizon +ℤ horizon))

-- these columns are about the events, and among them is each one before `column` whose event comes nearer to u by way
-- of v, which lies at most w after u
pub record AreNearer (events : ℕ) (far : ℕ → ℕ → ℤ) (u v : ℕ) (w : ℤ) (columns : List ℕ) (column : ℕ) : Type 0 where
  pub within : All (λ y. y ≤ events) columns
  pub left_out : (y : ℕ) → y < column → Contains columns y ⊎ (far u y ≤ℤ (w +ℤ far v y))

-- z lies on a tightest way from v to y
abbrev pub IsOnWay : (ℕ → ℕ → ℤ) → ℕ → ℕ → ℕ → Type 0
IsOnWay far v z y = (far v z +ℤ far z y) ≤ℤ far v y

-- each column's run ends after it, and its event lies on a tightest way from v to each of its run
pub record AreRuns (far : ℕ → ℕ → ℤ) (v : ℕ) (columns ends : List ℕ) : Type 0 where
  pub alike : length ends ≡ length columns
  pub after : (i : ℕ) → i < length columns → i < slice_index_or ends i 0
  pub within : (i : ℕ) → i < length columns → slice_index_or ends i 0 ≤ length columns
  pub beyond : (i j : ℕ) → i < j → j < length columns → j < slice_index_or ends i 0
      → IsOnWay far v (slice_index_or columns i 0) (slice_index_or columns j 0)

-- each of these columns is one of a row, its run ends after it, and where its entry of the row is no longer than the way by
-- an event that lies at most `through` after the row's own, from which the others lie so far onward, neither is any of its run
pub record AreRunsOf (size : ℕ) (own onward : ℕ → ℤ) (through : ℤ) (columns ends : List ℕ) : Type 0 where
  pub named : All (λ y. y < size) columns
  pub alike : length ends ≡ length columns
  pub after : (i : ℕ) → i < length columns → i < slice_index_or ends i 0
  pub within : (i : ℕ) → i < length columns → slice_index_or ends i 0 ≤ length columns
  pub passed : (i j : ℕ) → i < j → j < length columns → j < slice_index_or ends i 0
      → own (slice_index_or columns i 0) ≤ℤ (through +ℤ onward (slice_index_or columns i 0))
      → own (slice_index_or columns j 0) ≤ℤ (through +ℤ onward (slice_index_or columns j 0))

-- one entry is this value, and the others are as they were
pub record IsWrittenEntry (events : ℕ) (old new : ℕ → ℕ → ℤ) (row column : ℕ) (value : ℤ) : Type 0 where
  pub here : new row column ≡ value
  pub others : (x y : ℕ) → x ≤ events → y ≤ events → (x ≢ row) ⊎ (y ≢ column) → new x y ≡ old x y

-- the entries of one row are shorter by way of an event that lies at most `through` after the row's own, and the other
-- rows are as they were
pub record IsRowShortened (events : ℕ) (old new : ℕ → ℕ → ℤ) (row by : ℕ) (through : ℤ) : Type 0 where
  pub here : (y : ℕ) → y ≤ events → new row y ≡ int_min (old row y) (through +ℤ old by y)
  pub others : (x y : ℕ) → x ≤ events → y ≤ events → x ≢ row → new x y ≡ old x y
