use Rattle.std.specs.Prelude.{◌≡◌, ◌↔◌, ℕ, ℤ, ◌+◌, ◌≤◌, ◌-ℤ◌, ◌≤ℤ◌, Bool, IsTrue, List, length}
use Rattle.stn_net.specs.{Difference.Difference, Schedule.{IsSchedule, HasSchedule, times_of}, Matrix.Tightest.IsTightest}

-- for the origin and each of so many events, how long after `event` it can come at the most
pub record AreDistancesFrom (bounds : List Difference) (events event : ℕ) (far : List ℤ) : Type 0 where
  pub long : length far ≡ events + 1
  pub tightest : (x : ℕ) → x ≤ events → IsTightest bounds event x (times_of far x)

-- for the origin and each of so many events, how long after it `event` can come at the most
pub record AreDistancesTo (bounds : List Difference) (events event : ℕ) (far : List ℤ) : Type 0 where
  pub long : length far ≡ events + 1
  pub tightest : (x : ℕ) → x ≤ events → IsTightest bounds x event (times_of far x)

-- the bounds have a schedule, and what is told says whether in each `to` comes at most `most` after `from`
pub record TellsWithin (bounds : List Difference) (from to : ℕ) (most : ℤ) (told : Bool) : Type 0 where
  pub possible : HasSchedule bounds
  pub within : IsTrue told ↔ ((time : ℕ → ℤ) → IsSchedule bounds time → (time to -ℤ time from) ≤ℤ most)
