use Rattle.stn_lift.proofs.SoundBounds.{more_pairs}
use Rattle.stn_lift.proofs.timeline.Timeline.append_event_orders.Goals as goal

pub loop-before-preserved : goal.loop-before-preserved
loop-before-preserved g c = more_pairs _ _ _ c.loop-before.before _ _ _ c.loop-before.invariant c.in_ok-append_pair_order.ensures
