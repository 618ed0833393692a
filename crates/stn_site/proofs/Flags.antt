-- What stands at each place of a list of one value.
use Rattle.std.proofs.{lemmas.Grind.common_steps, Common.{arith, ◌≡◌, ℕ, replicate, get_or}}

pub get_or-replicate_same : {X : Type 0} (n : ℕ) (x : X) (i : ℕ) → get_or (replicate n x) i x ≡ x
get_or-replicate_same n x i = grind (arith, common_steps)
