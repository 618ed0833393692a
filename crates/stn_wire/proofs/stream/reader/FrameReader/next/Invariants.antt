use Rattle.std.{proofs.Common.{◌≡◌, ◌+◌, ◌-◌, List, ℕ, ◌++◌, length}, specs.Io.KnownBytes.Consumes}
use Rattle.stn_device.specs.Counted.{counted_device, KeepsCount}
use Rattle.stn_wire.specs.Stream.{pending, IsReading}
use Rattle.stn_wire.proofs.stream.reader.FrameReader.next.Given as goal

abbrev pub invariant-pieces : goal.invariant-pieces
invariant-pieces g l = record {
  reading : IsReading l.self;
  bytes : (bytes : List ℕ) × Consumes (g.R.Read.remaining (counted_device l.fn.reader)) (g.R.Read.remaining (counted_device l.reader)) bytes
      × (pending l.self ≡ pending l.fn.self ++ bytes) × (l.self.count ≡ l.fn.self.count + length bytes);
  kept : KeepsCount l.fn.reader l.reader;
}

abbrev pub decreases-pieces : goal.decreases-pieces
decreases-pieces g l = 16777216 - l.self.count
