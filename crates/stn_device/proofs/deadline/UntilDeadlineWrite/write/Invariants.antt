use Rattle.std.{proofs.Common.◌≡◌, specs.Io.KnownBytes.Keeps}
use Rattle.stn_device.{proofs.Deadlines.Waits, specs.Deadline.{deadline_end, timed_stream, deadline_of}}
use Rattle.stn_device.proofs.deadline.UntilDeadlineWrite.write.Given as goal

abbrev pub invariant-tries : goal.invariant-tries
invariant-tries g l = record {
  bytes : Keeps (g.S.TimedStream.contents (timed_stream l.fn.self)) (g.S.TimedStream.contents (timed_stream l.self));
  waits : Waits (deadline_end (deadline_of l.fn.self)) (g.S.Timer.time (timed_stream l.fn.self)) (g.S.Timer.time (timed_stream l.self));
  stays : deadline_of l.self ≡ deadline_of l.fn.self;
}
