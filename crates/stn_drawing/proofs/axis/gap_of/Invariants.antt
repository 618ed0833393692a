use Rattle.std.proofs.Common.{◌≡◌, drop}
use Rattle.stn_drawing.specs.Axis.{gaps, first_gap}
use Rattle.stn_drawing.proofs.axis.gap_of.Given as goal

abbrev pub invariant-loop-gap : goal.invariant-loop-gap
invariant-loop-gap l = first_gap l.before l.after gaps ≡ first_gap l.before l.after (drop l.gap-index gaps)
