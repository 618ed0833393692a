use Rattle.std.{proofs.Common.{◌≤◌, map}, specs.Rc.rc_value}
use Rattle.stn_world.proofs.Sites.{IsStarted}
use Rattle.stn_world.proofs.world.World.opened.Given as goal

abbrev pub invariant-loop-before : goal.invariant-loop-before
invariant-loop-before g l = (1 ≤ l.before) × (l.before ≤ l.sites) × IsStarted (rc_value l.base) l.before (map g.C.SiteCopy.held l.copies.items)
