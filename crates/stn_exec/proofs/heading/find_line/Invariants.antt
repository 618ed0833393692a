use Rattle.std.proofs.Common.{◌≡◌, ◌+◌, ◌≤◌, length}
use Rattle.stn_text.specs.Lines.{lines_of}
use Rattle.stn_exec.specs.Script.{next_line}
use Rattle.stn_exec.proofs.heading.find_line.Given as goal

abbrev pub invariant-loop-left : goal.invariant-loop-left
invariant-loop-left l = record {
  same : next_line l.at (lines_of l.left) ≡ next_line l.number (lines_of l.text);
  within : l.at + length l.left ≤ l.number + length l.text;
}

abbrev pub decreases-loop-left : goal.decreases-loop-left
decreases-loop-left l = length l.left
