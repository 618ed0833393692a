use Rattle.std.proofs.Common.{add-one, append_assoc}
use Rattle.stn_lift.specs.BaseBounds.{orders}
use Rattle.stn_lift.proofs.timeline.Timeline.append_orders.Goals as goal

pub loop-before-preserved : goal.loop-before-preserved
unfolding orders
loop-before-preserved g c = rw (c.in_ok-append_event_orders.ensures, c.loop-before.invariant, add-one, append_assoc)
