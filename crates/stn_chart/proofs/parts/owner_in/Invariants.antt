use Rattle.std.proofs.Common.{◌≡◌, drop}
use Rattle.stn_chart.specs.Parts.{owner_in}
use Rattle.stn_chart.proofs.parts.owner_in.Given as goal

abbrev pub invariant-loop-one : goal.invariant-loop-one
invariant-loop-one l = owner_in l.owned l.step ≡ owner_in (drop l.one-index l.owned) l.step
