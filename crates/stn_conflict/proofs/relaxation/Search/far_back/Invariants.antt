use Rattle.std.proofs.Common.{◌<◌, length}
use Rattle.stn_conflict.proofs.relaxation.Search.far_back.Given as goal

abbrev pub invariant-loop : goal.invariant-loop
invariant-loop g l = l.here < length l.self.far.items
