use Rattle.std.proofs.Common.{refl}
use Rattle.stn_refusal.proofs.failure.Failure.refused_with.Goals as goal

pub returns : goal.returns
returns c = refl
