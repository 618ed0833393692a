use Rattle.std.specs.Prelude.{◌≡◌, ◌≢◌, ℕ, ℤ, List, ◌++◌, All}
use Rattle.stn_net.specs.{Difference.Difference, Schedule.{IsSchedule, HasSchedule}}
use Rattle.stn_guard.specs.Owners.{own_bounds}

-- the guard is bounds from the origin to single events, with which the bounds have a schedule, and whatever meets each
-- site's own bounds is a schedule: so each site may act within its own bounds, whatever the others do
pub record Guards (owner : ℕ → ℕ) (bounds guard : List Difference) : Type 0 where
  pub single : All (λ bound. (bound.from ≡ 0) × (bound.to ≢ 0)) guard
  pub possible : HasSchedule (bounds ++ guard)
  pub enough : (time : ℕ → ℤ) → ((site : ℕ) → IsSchedule (own_bounds owner site (bounds ++ guard)) time) → IsSchedule (bounds ++ guard) time
