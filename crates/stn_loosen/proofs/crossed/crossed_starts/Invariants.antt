use Rattle.std.proofs.Common.{map}
use Rattle.stn_loosen.specs.{Starting.AreChosen, Stepped.as_bound}
use Rattle.stn_loosen.proofs.crossed.crossed_starts.Given as goal

abbrev pub invariant-loop-place : goal.invariant-loop-place
invariant-loop-place g l = AreChosen l.events (map as_bound l.starts) l.place l.chosen.items l.places.items
