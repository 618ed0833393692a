use Rattle.std.{proofs.Common.{◌≡◌, ◌+◌, ◌-◌, length, IfSome}, specs.Prelude.option_map}
use Rattle.stn_device.specs.Counted.{counted_device, KeepsCount}
use Rattle.stn_wire.specs.Stream.{pending, IsReading}
use Rattle.stn_store.{specs.Log.Opening.opened_so_far, proofs.log.Progress.Progress}
use Rattle.stn_store.proofs.log.reading.load_plan.Given as goal

abbrev pub invariant-frames : goal.invariant-frames
invariant-frames g l = record {
  reading : IsReading l.frames;
  progress : Progress (g.R.Read.remaining (counted_device l.fn.reader)) (g.R.Read.remaining (counted_device l.reader))
      (option_map opened_so_far l.log) (pending l.frames) l.frames.count;
  site : IfSome l.log (λ opened. opened.plan.site ≡ l.site);
  kept : KeepsCount l.fn.reader l.reader;
}

abbrev pub decreases-frames : goal.decreases-frames
decreases-frames g l = 16777216 + length (pending l.frames) - l.frames.count
