use Rattle.std.{proofs.Common.{◌≡◌, ◌++◌, length, List, ℕ}, specs.Io.KnownBytes.Consumes}
use Rattle.stn_store.proofs.reading.are_these.Given as goal

abbrev pub invariant-pieces : goal.invariant-pieces
invariant-pieces g l = record {
  piece_len : length l.piece ≡ 8192;
  done : (front : List ℕ) × (l.bytes ≡ front ++ l.left) × Consumes (g.R.Read.remaining l.fn.reader) (g.R.Read.remaining l.reader) front;
}

abbrev pub decreases-pieces : goal.decreases-pieces
decreases-pieces g l = length l.left
