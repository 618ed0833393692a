use Rattle.std.specs.Prelude.{IfSome}
use Rattle.stn_conflict.specs.Relaxation.{IsArcBetween}
use Rattle.stn_conflict.proofs.relaxation.least_weight.Given as goal

abbrev pub invariant-loop-look : goal.invariant-loop-look
invariant-loop-look g l = IfSome l.least (IsArcBetween l.graph.bounds l.from l.to)
