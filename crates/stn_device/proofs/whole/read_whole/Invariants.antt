use Rattle.std.{proofs.Common.{◌≡◌, ◌≤◌, ◌-◌, length, vec_len}, specs.Io.KnownBytes.Consumes}
use Rattle.stn_device.specs.Counted.{counted_device, KeepsCount}
use Rattle.stn_device.proofs.whole.read_whole.Given as goal

abbrev pub invariant-loop-piece : goal.invariant-loop-piece
invariant-loop-piece g l = record {
  piece_len : length l.piece ≡ 4096;
  bytes : Consumes (g.R.Read.remaining (counted_device l.fn.reader)) (g.R.Read.remaining (counted_device l.reader)) l.bytes.items;
  within : vec_len l.bytes ≤ l.limit;
  kept : KeepsCount l.fn.reader l.reader;
}

abbrev pub decreases-loop-piece : goal.decreases-loop-piece
decreases-loop-piece g l = l.limit - vec_len l.bytes
