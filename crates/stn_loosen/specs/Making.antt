-- For proofs alone: no public clause cites these words.
use Rattle.std.specs.Prelude.{◌≡◌, ℕ, ℤ, ◌<◌, ◌≤◌, ◌-ℤ◌, ◌≤ℤ◌, neg_ℤ, List, ◌++◌, length}
use Rattle.stn_net.specs.{Difference.Difference, Horizon.horizon_bounds, Schedule.IsSchedule, Matrix.{Table.{Table, far_of}, Tightest.IsExact}}
use Rattle.stn_conflict.specs.Listing.{ListedBounds}
use Rattle.stn_records.specs.Content.{most_known}
use Rattle.stn_refusal.specs.declared.{code.Code.TheVariants.Full, failure.Failure.Failure}
use Rattle.stn_loosen.specs.{Loosened.{Imply, AreKept}, Faults.IsRefusedFor}

-- what was made so far over a bare plan with so many events: the bounds of its records
pub record Loosening : Type 0 where
  pub events : ℕ
  pub records : List Difference

-- the bounds of the bare plan, and then the records
abbrev pub made_bounds : Loosening → List Difference
made_bounds made = horizon_bounds made.events ++ made.records

-- with more records after the others
abbrev pub with_more : Loosening → List Difference → Loosening
with_more made more = record made { records = made.records ++ more }

-- records over a plan with the events of a table
abbrev pub loosening_of : Table → List Difference → Loosening
loosening_of table records = record { events = table.events; records = records }

-- the table is exact for all bounds, and there are no more records than a site may know
pub record AreTaken (records : List Difference) (table : Table) : Type 0 where
  pub exact : IsExact (made_bounds (loosening_of table records)) table
  pub few : length records ≤ most_known

-- the differences in the table show that the bound is implied
abbrev pub IsShown : Table → Difference → Type 0
IsShown table bound = (far_of table bound.from bound.to ≤ℤ bound.hi) × (far_of table bound.to bound.from ≤ℤ neg_ℤ bound.lo)

-- the network has all bounds, and in none of their schedules are two events farther apart than the table says
pub record IsSearched (records : List Difference) (table : Table) (network : ListedBounds) : Type 0 where
  pub whole : network ≡ record { events = table.events; bounds = made_bounds (loosening_of table records) }
  pub apart : (time : ℕ → ℤ) → IsSchedule (made_bounds (loosening_of table records)) time → (x y : ℕ) → x ≤ table.events → y ≤ table.events
      → (time y -ℤ time x) ≤ℤ far_of table x y

-- what was made of more bounds: those that were not implied by then
abbrev pub AreMadeBehind : Loosening → List Difference → Loosening → Type 0
AreMadeBehind old bounds new = (kept : List Difference) × (new ≡ with_more old kept) × AreKept (made_bounds old) bounds kept

-- why an order can't be made: it is needed, and there are as many records as may be
abbrev pub IsCauseOf : Loosening → Difference → Failure → Type 0
IsCauseOf old order = IsRefusedFor Full (¬ Imply (made_bounds old) order × (length old.records ≡ most_known))

-- what is made of the first orders is too many records
pub record AreTooManyWith (before : Loosening) (orders : List Difference) : Type 0 where
  pub first : List Difference
  pub others : List Difference
  pub parts : orders ≡ first ++ others
  pub made : Loosening
  pub behind : AreMadeBehind before first made
  pub many : most_known < length made.records

abbrev pub IsCauseWith : Loosening → List Difference → Failure → Type 0
IsCauseWith before orders = IsRefusedFor Full (AreTooManyWith before orders)
