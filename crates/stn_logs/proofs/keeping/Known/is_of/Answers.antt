use Rattle.stn_logs.proofs.Spelled.{looked_at}
use Rattle.stn_logs.proofs.keeping.Known.is_of.Goals as goal

pub see-requires : goal.see-requires
see-requires g c = looked_at c.look-seen.result c.look-seen.ensures (c.in_ok-has_bytes_of.ensures.same c.if-branch.true)

pub returns-then-is_seen-clause-same : goal.returns-then-is_seen-clause-same
returns-then-is_seen-clause-same g c = λ _. c.is_seen.ensures c.if-is_seen.true

pub returns-then-branch-clause-same : goal.returns-then-branch-clause-same
returns-then-branch-clause-same g c = λ _. rw c.see.ensures (c.in_ok-has_bytes_of.ensures.same c.if-branch.true)
