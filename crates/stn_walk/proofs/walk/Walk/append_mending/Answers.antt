use Rattle.stn_text.proofs.Growing.{lines_grown}
use Rattle.stn_walk.proofs.walk.Walk.append_mending.Goals as goal

pub loop-repair-preserved : goal.loop-repair-preserved
loop-repair-preserved g c = lines_grown _ _ _ _ _ _ _ c.loop-repair-test.true c.repair-item.is c.loop-repair.invariant c.in_ok-append_mends.ensures
