use Rattle.stn_conflict.proofs.Steps.{ArePassed}
use Rattle.stn_conflict.proofs.levels.first_step.Given as goal

abbrev pub invariant-loop-look : goal.invariant-loop-look
invariant-loop-look g l = ArePassed l.graph.bounds l.start l.look-items l.look-index
