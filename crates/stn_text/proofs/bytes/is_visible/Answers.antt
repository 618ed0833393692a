use Rattle.std.proofs.Common.{rules}
use Rattle.stn_text.proofs.bytes.is_visible.Goals as goal

pub returns-then-byte-ge33 : goal.returns-then-byte-ge33
returns-then-byte-ge33 c = search rules
