use Rattle.stn_guard.proofs.Split.{window_ordered}
use Rattle.stn_guard.proofs.guarding.window_of.Goals as goal

pub window_bound-requires-clause-ordered : goal.window_bound-requires-clause-ordered
window_bound-requires-clause-ordered g c = window_ordered c.requires.possible c.window-earliest.ensures
