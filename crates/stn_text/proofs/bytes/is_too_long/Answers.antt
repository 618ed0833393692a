use Rattle.std.proofs.Common.{refl}
use Rattle.stn_text.proofs.bytes.is_too_long.Goals as goal

pub returns : goal.returns
returns c = refl
