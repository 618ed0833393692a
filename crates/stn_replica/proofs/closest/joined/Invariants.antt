use Rattle.std.proofs.Common.{◌≡◌, take}
use Rattle.stn_replica.specs.Rows.{in_turn}
use Rattle.stn_replica.proofs.closest.joined.Given as goal

abbrev pub invariant-loop-row : goal.invariant-loop-row
invariant-loop-row g l = l.found.items ≡ in_turn (take l.row-index l.rows)
