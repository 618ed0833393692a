use Rattle.std.proofs.Common.{rules}
use Rattle.stn_reasons.proofs.waiting.waiting_of.Goals as goal

pub returns-in-Some : goal.returns-in-Some
returns-in-Some g c = search rules
