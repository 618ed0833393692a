use Rattle.std.proofs.Common.{◌≡◌, drop}
use Rattle.stn_guard.specs.Adding.{owner_by}
use Rattle.stn_guard.proofs.owners.owner_by.Given as goal

abbrev pub invariant-loop-one : goal.invariant-loop-one
invariant-loop-one l = owner_by l.site l.owned l.event ≡ owner_by l.site (drop l.one-index l.owned) l.event
