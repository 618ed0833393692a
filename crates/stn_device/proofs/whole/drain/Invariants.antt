use Rattle.std.{proofs.Common.{◌≡◌, ◌+◌, List, ℕ, length}, specs.Io.KnownBytes.Consumes}
use Rattle.stn_device.specs.Counted.{counted_device, KeepsCount}
use Rattle.stn_device.proofs.whole.drain.Given as goal

abbrev pub invariant-loop-left : goal.invariant-loop-left
invariant-loop-left g l = record {
  piece_len : length l.piece ≡ 4096;
  bytes : (used : List ℕ) × Consumes (g.R.Read.remaining (counted_device l.fn.reader)) (g.R.Read.remaining (counted_device l.reader)) used × (length used + l.left ≡ l.limit);
  kept : KeepsCount l.fn.reader l.reader;
}

abbrev pub decreases-loop-left : goal.decreases-loop-left
decreases-loop-left g l = l.left
