use Rattle.std.specs.Prelude.{ℕ, List}
use Rattle.stn_net.specs.Difference.{Difference}

-- the bounds of a plan with so many events beside the origin, one after the other
pub record ListedBounds : Type 0 where
  pub events : ℕ
  pub bounds : List Difference
