use Rattle.std.proofs.Common.{◌≡◌, map, take}
use Rattle.stn_command.proofs.steps.owned_by.Given as goal

abbrev pub invariant-loop-range : goal.invariant-loop-range
invariant-loop-range g l = l.owned.items ≡ map (λ range. record { site = l.site; steps = range }) (take l.range-index l.ranges)
