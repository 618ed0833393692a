use Rattle.std.proofs.Common.{sym}
use Rattle.stn_reasons.proofs.reason.RefusedCommand.about_log.Goals as goal

pub about_opened-requires : goal.about_opened-requires
about_opened-requires g c = sym c.in-Some.ensures
