use Rattle.stn_guard.proofs.Gluing.{guarded_possible}
use Rattle.stn_guard.proofs.laws.guard_needs_schedule.Goals as goal

pub returns : goal.returns
returns c = guarded_possible
