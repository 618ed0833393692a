use Rattle.std.proofs.Common.{◌≡◌, ◌≤◌, length}
use Rattle.stn_text.specs.Lines.{words_of}
use Rattle.stn_text.proofs.lines.without_gaps.Given as goal

abbrev pub invariant-loop-first : goal.invariant-loop-first
invariant-loop-first l = record {
  words : words_of l.rest ≡ words_of l.line;
  shorter : length l.rest ≤ length l.line;
}

abbrev pub decreases-loop-first : goal.decreases-loop-first
decreases-loop-first l = length l.rest
