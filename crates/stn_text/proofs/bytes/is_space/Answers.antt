use Rattle.std.proofs.Common.{rules}
use Rattle.stn_text.proofs.bytes.is_space.Goals as goal

pub returns-in_default-2 : goal.returns-in_default-2
returns-in_default-2 c = search rules
