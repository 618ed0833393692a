use Rattle.std.proofs.Common.{◌≡◌, ◌+◌, ◌≤◌, length}
use Rattle.stn_text.specs.Lines.{words_of}
use Rattle.stn_exec.proofs.command.count_words.Given as goal

abbrev pub invariant-loop-behind : goal.invariant-loop-behind
invariant-loop-behind l = record {
  count : l.count + length (words_of l.rest) ≡ length (words_of l.line);
  fits : l.count + length l.rest ≤ length l.line;
}

abbrev pub decreases-loop-behind : goal.decreases-loop-behind
decreases-loop-behind l = length l.rest
