use Rattle.std.proofs.Common.{rules, ◌≡◌, ℕ, ◌+◌, ◌∷◌, ◌++◌, []}
use Rattle.stn_net.specs.Horizon.{horizon_bound, horizon_bounds}
use Rattle.stn_lift.proofs.bounds.horizon_bounds.Goals as goal

-- the bounds of one event more
one_more : (before : ℕ) → horizon_bounds before ++ horizon_bound (before + 1) ∷ [] ≡ horizon_bounds (before + 1)
unfolding horizon_bounds
one_more before = search rules

pub loop-before-preserved : goal.loop-before-preserved
loop-before-preserved g c = search (rules, one_more)
