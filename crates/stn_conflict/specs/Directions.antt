-- For proofs alone: no public clause cites these words.
use Rattle.std.specs.Prelude.{neg_ℤ, List, map}
use Rattle.stn_net.specs.Difference.{Difference}
use Rattle.stn_conflict.specs.declared.arcs.Direction.{Direction, TheVariants.{Forward, Backward}}

-- what the bound says of times with their signs changed
abbrev pub turned : Difference → Difference
turned bound = record { from = bound.from; to = bound.to; lo = neg_ℤ bound.hi; hi = neg_ℤ bound.lo }

-- the bound, or the bound turned round
abbrev pub faced : Direction → Difference → Difference
faced Forward bound = bound
faced Backward bound = turned bound

-- the bounds, or the bounds turned round
abbrev pub facing : Direction → List Difference → List Difference
facing Forward bounds = bounds
facing Backward bounds = map turned bounds
