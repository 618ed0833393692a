use Rattle.std.proofs.Common.{take}
use Rattle.stn_guard.specs.{Owners.owner_of, Making.shared_arcs, Splitting.Splits}
use Rattle.stn_guard.proofs.splitting.split_shared.Given as goal

abbrev pub invariant-loop-bound : goal.invariant-loop-bound
invariant-loop-bound g l = Splits (shared_arcs (owner_of l.owners) (take l.bound-index l.bounds)) l.fn.windows l.windows
