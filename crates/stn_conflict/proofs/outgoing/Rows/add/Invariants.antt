use Rattle.std.proofs.Common.{◌+◌, ◌*◌, ◌≤◌, ◌++◌, length}
use Rattle.stn_conflict.specs.Relaxation.{AreFirstRows}
use Rattle.stn_conflict.proofs.outgoing.Rows.add.Given as goal

abbrev pub invariant-loop-place : goal.invariant-loop-place
invariant-loop-place g l = record {
  past : 2 * l.place ≤ l.self.added;
  next : l.self.added ≤ 2 * l.place + 1;
  rows : AreFirstRows l.initial.self.direction l.initial.self.whole (l.base ++ l.extra) (length l.initial.self.outgoing.items) l.self;
}
