use Rattle.std.{proofs.Common.{◌≡◌, ◌++◌, length, List, ℕ}, specs.Io.KnownBytes.Appends}
use Rattle.stn_device.specs.Counted.{counted_device, KeepsCount}
use Rattle.stn_device.proofs.whole.write_whole.Given as goal

abbrev pub invariant-loop-rest : goal.invariant-loop-rest
invariant-loop-rest g l = record {
  part : (front : List ℕ) × (l.bytes ≡ front ++ l.rest) × Appends (g.W.Write.contents (counted_device l.fn.writer)) (g.W.Write.contents (counted_device l.writer)) front;
  kept : KeepsCount l.fn.writer l.writer;
}

abbrev pub decreases-loop-rest : goal.decreases-loop-rest
decreases-loop-rest g l = length l.rest
