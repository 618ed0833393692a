use Rattle.std.proofs.{Common.rules}
use Rattle.stn_drawing.proofs.{Shown.shown, seconds.SecondsDisplay.fmt.Goals.else-millis-lt0}
use Rattle.stn_drawing.proofs.seconds.SecondsDisplay.fmt.Goals as goal

pub returns-clause-writes : goal.returns-clause-writes
returns-clause-writes g c = search (rules, shown, else-millis-lt0)
