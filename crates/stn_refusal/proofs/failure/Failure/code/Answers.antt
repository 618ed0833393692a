use Rattle.std.proofs.Common.{refl}
use Rattle.stn_refusal.proofs.failure.Failure.code.Goals as goal

pub returns-in-Failed : goal.returns-in-Failed
returns-in-Failed c = rw c.in-Failed.is refl
