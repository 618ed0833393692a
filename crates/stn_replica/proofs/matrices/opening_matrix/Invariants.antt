use Rattle.stn_replica.proofs.Opening.{IsOpenedTo}
use Rattle.stn_replica.proofs.matrices.opening_matrix.Given as goal

abbrev pub invariant-loop-bound : goal.invariant-loop-bound
invariant-loop-bound g l = IsOpenedTo l.base l.bound-items l.bound-index l.matrix
