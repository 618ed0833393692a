use Rattle.stn_lift.proofs.TimelineFacts.{timeline_none}
use Rattle.stn_lift.proofs.timeline.Timeline.read.Goals as goal

pub append_steps-appended-requires-clause-empty : goal.append_steps-appended-requires-clause-empty
append_steps-appended-requires-clause-empty g c = timeline_none c.new-atoms.result _ _ _ c.new-atoms.ensures c.in_ok-timeline.ensures.0 c.in_ok-timeline.ensures.1 c.in_ok-timeline.ensures.2
