use Rattle.std.proofs.{Common.{ℕ, pos, ◌*◌, ◌≤◌, refl, arith}, lemmas.{List.take_all, Int.ints, Bool.{false≢true, Decides.nat_tests}}}
use Rattle.stn_net.{specs.{Schedule.Meets, Horizon.horizon_bounds}, proofs.{Horizons.length-horizon_bounds, Widest.{horizon_each, horizon_named}}}
use Rattle.stn_lift.specs.PlanSource.{bare, IsSoundSource}

-- a bare source of at most 256 steps is sound
pub sound_bare_source : {steps : ℕ} → steps ≤ 256 → IsSoundSource (bare steps)
sound_bare_source {steps} small = record {
  based = grind (arith, nat_tests);
  small = small;
  horizon = take_all (2 * steps) (horizon_bounds (2 * steps)) (omega (arith, length-horizon_bounds (2 * steps)));
  named = horizon_named (2 * steps);
  few = omega (arith, length-horizon_bounds (2 * steps));
  possible = record { origin = refl; met = horizon_each (Meets (λ _. pos 0)) (2 * steps) (λ event beside last. (omega (arith, ints), omega (arith, ints))) };
  ordered = record {
    before = λ time one other schedule pair planned. absurd (false≢true pair.share);
    after = λ time one other schedule pair planned. absurd (false≢true pair.share);
    together = λ time one other schedule pair planned. absurd (false≢true pair.share);
  };
  texts = tt;
}
