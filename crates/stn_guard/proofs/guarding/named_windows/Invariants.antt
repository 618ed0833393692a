use Rattle.std.proofs.Common.{◌-◌}
use Rattle.stn_guard.proofs.Named.{AreNamedTo}
use Rattle.stn_guard.proofs.guarding.named_windows.Given as goal

abbrev pub invariant-loop-number : goal.invariant-loop-number
invariant-loop-number g l = AreNamedTo l.windows.bounds l.named (l.number - 1) l.found.items
