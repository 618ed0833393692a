use Rattle.std.{proofs.Common.{◌≡◌, map}, specs.List.range_with_len}
use Rattle.stn_guard.specs.Adding.{owner_by}
use Rattle.stn_guard.proofs.owners.owners_of.Given as goal

abbrev pub invariant-loop-number : goal.invariant-loop-number
invariant-loop-number g l = l.owners.items ≡ map (owner_by l.site l.owned) (range_with_len 0 l.number)
