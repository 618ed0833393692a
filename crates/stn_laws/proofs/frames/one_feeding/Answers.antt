use Rattle.stn_laws.proofs.frames.OneFeeding.{one_feeding_lem}
use Rattle.stn_laws.proofs.frames.one_feeding.Goals as goal

pub returns : goal.returns
returns g c = λ one other last final. one_feeding_lem one other last final
