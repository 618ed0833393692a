use Rattle.std.proofs.Common.{refl}
use Rattle.stn_refusal.proofs.code.Code.number.Goals as goal

pub returns-in-Full : goal.returns-in-Full
returns-in-Full c = rw c.in-Full.is refl

pub returns-in-Unknown : goal.returns-in-Unknown
returns-in-Unknown c = rw c.in-Unknown.is refl
