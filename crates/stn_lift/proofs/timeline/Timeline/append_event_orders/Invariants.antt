use Rattle.std.proofs.Common.{◌≡◌, ◌++◌, map}
use Rattle.stn_net.specs.Schedule.{times_of}
use Rattle.stn_lift.specs.{BaseBounds.event_orders, Timelines.interfere_by_number, Views.numbers_of}
use Rattle.stn_lift.proofs.timeline.Timeline.append_event_orders.Given as goal

abbrev pub invariant-loop-before : goal.invariant-loop-before
invariant-loop-before g l =
    l.bounds.items ≡ l.fn.bounds.items ++ event_orders (interfere_by_number (map numbers_of l.self.footprints.items)) (times_of l.self.times.items) l.one l.before
