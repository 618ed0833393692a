use Rattle.std.proofs.Common.{refl}
use Rattle.stn_time.proofs.reading.Parts.time.Goals as goal

pub returns-then-not-is_fine : goal.returns-then-not-is_fine
returns-then-not-is_fine c = rw (← c.is_fine.ensures, c.if-not-is_fine.true) refl
