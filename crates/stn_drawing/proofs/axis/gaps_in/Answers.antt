use Rattle.stn_drawing.proofs.AxisGaps.{some_gaps}
use Rattle.stn_drawing.proofs.axis.gaps_in.Goals as goal

pub returns-clause-some : goal.returns-clause-some
returns-clause-some c = λ reach. some_gaps c.requires.gap reach
