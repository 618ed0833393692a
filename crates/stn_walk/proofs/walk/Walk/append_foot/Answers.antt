use Rattle.std.proofs.Common.{append_assoc}
use Rattle.stn_drawing.proofs.Grown.{written}
use Rattle.stn_walk.proofs.walk.Walk.append_foot.Goals as goal

pub returns : goal.returns
returns g c = written c.in_memory.result c.write.result _ _ _ c.in_memory.ensures c.write.ensures.bytes (simp (append_assoc, c.top_of.ensures.value, c.begins_at.ensures))
