use Rattle.std.specs.Prelude.{◌≡◌, ℕ, ℤ, ◌≤◌, ◌-ℤ◌, ◌≤ℤ◌, List, All}
use Rattle.stn_net.specs.{Difference.{Difference, NamesEvents}, Schedule.{IsSchedule, HasSchedule}, Matrix.Table.{Table, far_of}}

-- the time of y lies at most `most` after that of x in every schedule, and just so in some schedule
pub record IsTightest (bounds : List Difference) (x y : ℕ) (most : ℤ) : Type 0 where
  pub bound : (time : ℕ → ℤ) → IsSchedule bounds time → (time y -ℤ time x) ≤ℤ most
  pub attained : (time : ℕ → ℤ) × IsSchedule bounds time × ((time y -ℤ time x) ≡ most)

-- the bounds are about the table's events and have a schedule, and each entry is the tightest difference
pub record IsExact (bounds : List Difference) (table : Table) : Type 0 where
  pub named : All (NamesEvents table.events) bounds
  pub possible : HasSchedule bounds
  pub far : (x y : ℕ) → x ≤ table.events → y ≤ table.events → IsTightest bounds x y (far_of table x y)
