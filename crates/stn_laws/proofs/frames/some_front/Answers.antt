use Rattle.stn_laws.proofs.frames.Fronts.{some_front_lem}
use Rattle.stn_laws.proofs.frames.some_front.Goals as goal

pub returns : goal.returns
returns c = some_front_lem
