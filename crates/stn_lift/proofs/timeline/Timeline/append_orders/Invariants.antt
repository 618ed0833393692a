use Rattle.std.proofs.Common.{◌≡◌, ◌++◌, ◌*◌, map, length}
use Rattle.stn_net.specs.Schedule.{times_of}
use Rattle.stn_lift.specs.{BaseBounds.orders, Timelines.interfere_by_number, Views.numbers_of}
use Rattle.stn_lift.proofs.timeline.Timeline.append_orders.Given as goal

abbrev pub invariant-loop-before : goal.invariant-loop-before
invariant-loop-before g l =
    l.bounds.items ≡ l.fn.bounds.items
    ++ orders (interfere_by_number (map numbers_of l.self.footprints.items)) (times_of l.self.times.items) (2 * length l.self.durations.items) l.before
