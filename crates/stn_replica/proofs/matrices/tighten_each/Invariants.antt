use Rattle.stn_replica.proofs.Tightening.{IsTightenedBy}
use Rattle.stn_replica.proofs.matrices.tighten_each.Given as goal

abbrev pub invariant-loop-record : goal.invariant-loop-record
invariant-loop-record g l = IsTightenedBy l.fn.records l.yielded l.record-iterator l.initial.matrix l.matrix
