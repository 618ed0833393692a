use Rattle.std.proofs.{lemmas.List.Concat.flat_map-append, Common.rules}
use Rattle.stn_replica.proofs.closest.empty_rows.Goals as goal

pub loop-preserved : goal.loop-preserved
loop-preserved g c = search (rules, flat_map-append)
