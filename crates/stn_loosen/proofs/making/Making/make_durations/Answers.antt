use Rattle.std.proofs.Common.{rules}
use Rattle.stn_loosen.proofs.Made.{made_more, duration_possible, duration_room}
use Rattle.stn_loosen.proofs.making.Making.make_durations.Goals as goal

pub make-requires-clause-possible : goal.make-requires-clause-possible
make-requires-clause-possible g c = search (rules, duration_possible)

pub make-requires-clause-room : goal.make-requires-clause-room
make-requires-clause-room g c = search (rules, duration_room)

pub loop-duration-preserved : goal.loop-duration-preserved
loop-duration-preserved g c = search (rules, made_more)
