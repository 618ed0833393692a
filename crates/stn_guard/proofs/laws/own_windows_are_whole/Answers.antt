use Rattle.stn_guard.proofs.Gluing.{own_windows}
use Rattle.stn_guard.proofs.laws.own_windows_are_whole.Goals as goal

pub returns : goal.returns
returns c = own_windows
