use Rattle.std.{proofs.Common.{◌≡◌, ◌++◌, take}, specs.List.flat_map}
use Rattle.stn_walk.specs.{Walk.{mends_text, row_link}, Seen.seen_walk}
use Rattle.stn_walk.proofs.walk.Walk.append_mending.Given as goal

abbrev pub invariant-loop-repair : goal.invariant-loop-repair
invariant-loop-repair g l = l.out.items ≡ l.initial.out.items ++ flat_map (mends_text l.row (row_link (seen_walk l.self) l.row).side l.id) (take l.repair-index l.self.repairs.now)
