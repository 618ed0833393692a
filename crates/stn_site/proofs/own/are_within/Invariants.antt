use Rattle.std.proofs.Common.{◌≡◌, true, take}
use Rattle.stn_site.specs.Own.{are_within}
use Rattle.stn_site.proofs.own.are_within.Given as goal

abbrev pub invariant-loop-one : goal.invariant-loop-one
invariant-loop-one l = are_within l.steps (take l.one-index l.owned) ≡ true
