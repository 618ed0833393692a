use Rattle.std.proofs.Common.{length, take}
use Rattle.stn_conflict.proofs.Walks.{IsFollowing}
use Rattle.stn_conflict.proofs.levels.follow.Given as goal

abbrev pub invariant-loop-look : goal.invariant-loop-look
invariant-loop-look g l = IsFollowing l.graph.bounds l.start (length l.far) l.place l.level l.event (take l.look-index l.look-items) l.walk
