-- For proofs alone: no public clause cites these words.
use Rattle.std.specs.Prelude.{◌≡◌, ◌≢◌, ℕ, ℤ, pos, ◌≤◌, ◌+ℤ◌, ◌≤ℤ◌}
use Rattle.stn_time.specs.Time.{horizon}

-- an event lies no time from itself, and no difference is more than the two by way of a third event
pub record IsShortest (events : ℕ) (far : ℕ → ℕ → ℤ) : Type 0 where
  pub itself : (x : ℕ) → x ≤ events → far x x ≡ pos 0
  pub triangle : (x y z : ℕ) → x ≤ events → y ≤ events → z ≤ events → far x z ≤ℤ (far x y +ℤ far y z)

-- and none is beyond the horizon
pub record IsClosed (events : ℕ) (far : ℕ → ℕ → ℤ) : Type 0 where
  pub shortest : IsShortest events far
  pub most : (x y : ℕ) → x ≤ events → y ≤ events → far x y ≤ℤ horizon

-- the differences of events of which no more is known than that each lies from the origin to the horizon
pub record IsWidest (events : ℕ) (far : ℕ → ℕ → ℤ) : Type 0 where
  pub origin : (x : ℕ) → x ≤ events → far x 0 ≡ pos 0
  pub itself : (x : ℕ) → x ≤ events → far x x ≡ pos 0
  pub others : (x y : ℕ) → x ≤ events → y ≤ events → y ≢ 0 → x ≢ y → far x y ≡ horizon
