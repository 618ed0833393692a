use Rattle.std.proofs.Common.{◌≡◌, ◌<◌, ℕ, length, get_or}
use Rattle.stn_loosen.proofs.crossed.places_before.Given as goal

abbrev pub invariant-loop-place : goal.invariant-loop-place
invariant-loop-place g l = record {
  long : length l.places.items ≡ l.place;
  same : (k : ℕ) → k < l.place → get_or l.places.items k 0 ≡ k;
}
