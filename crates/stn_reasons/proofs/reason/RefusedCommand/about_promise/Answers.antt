use Rattle.std.proofs.Common.{rules}
use Rattle.stn_reasons.proofs.reason.RefusedCommand.about_promise.Goals as goal

pub returns-in-Ok : goal.returns-in-Ok
returns-in-Ok g c = search rules
