use Rattle.stn_laws.proofs.frames.Fronts.{one_front_lem}
use Rattle.stn_laws.proofs.frames.one_front.Goals as goal

pub returns : goal.returns
returns c = one_front_lem
