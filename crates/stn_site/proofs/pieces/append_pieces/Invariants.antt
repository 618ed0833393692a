use Rattle.std.proofs.Common.{◌≡◌, ◌+◌, ◌≤◌, ◌++◌, length, sum_by, take}
use Rattle.stn_site.specs.Pieces.{pieces_text, most_of}
use Rattle.stn_site.proofs.pieces.append_pieces.Given as goal

abbrev pub invariant-loop-piece : goal.invariant-loop-piece
invariant-loop-piece g l = record {
  text : l.out.items ≡ l.initial.out.items ++ pieces_text (take l.piece-index l.pieces);
  short : length l.out.items ≤ length l.initial.out.items + sum_by most_of (take l.piece-index l.pieces);
}
