use Rattle.std.proofs.{lemmas.{Grind.common_steps, List.take-append-le}, Common.{rules, ◌≡◌, ℕ, ◌≤◌, zero, suc, List, [], ◌∷◌, ◌++◌, length, take, refl, arith, length-append}}
use Rattle.stn_net.specs.{Difference.Difference, Horizon.{horizon_bound, horizon_bounds}}

-- there is one horizon bound for each event
pub length-horizon_bounds : (events : ℕ) → length (horizon_bounds events) ≡ events
unfolding horizon_bounds
length-horizon_bounds zero = refl
length-horizon_bounds (suc events) = omega (arith, length-append (horizon_bounds events) (horizon_bound (suc events) ∷ []), length-horizon_bounds events)

-- bounds that begin with the horizon bounds are no fewer than the events
pub known_within : (events : ℕ) (base : List Difference) → take events base ≡ horizon_bounds events → events ≤ length base
known_within events base begins = grind (arith, common_steps, length-horizon_bounds)

-- with more bounds after them they still begin so
pub known_first : (events : ℕ) (base extra : List Difference) → take events base ≡ horizon_bounds events → take events (base ++ extra) ≡ horizon_bounds events
known_first events base extra begins = search (rules, take-append-le, known_within)
