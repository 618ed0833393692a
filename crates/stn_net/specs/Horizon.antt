use Rattle.std.specs.Prelude.{ℕ, zero, suc, pos, List, [], ◌∷◌, ◌++◌}
use Rattle.stn_time.specs.Time.{horizon}
use Rattle.stn_net.specs.Difference.{Difference}

-- the horizon bound of an event: it comes no earlier than the origin, and no later than the horizon
abbrev pub horizon_bound : ℕ → Difference
horizon_bound event = record { from = 0; to = event; lo = pos 0; hi = horizon }

-- the horizon bounds of so many events, by their numbers from 1 on
unfoldable pub horizon_bounds : ℕ → List Difference
horizon_bounds zero = []
horizon_bounds (suc events) = horizon_bounds events ++ horizon_bound (suc events) ∷ []
