use Rattle.std.proofs.Common.{refl}
use Rattle.stn_drawing.proofs.escape.escaped.Goals as goal

pub returns-in-60 : goal.returns-in-60
returns-in-60 c = rw c.in-60.is refl
