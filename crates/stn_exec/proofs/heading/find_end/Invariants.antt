use Rattle.std.proofs.Common.{◌+◌, ◌≤◌, length}
use Rattle.stn_exec.proofs.Blocks.{IsSought}
use Rattle.stn_exec.proofs.heading.find_end.Given as goal

abbrev pub invariant-loop-left : goal.invariant-loop-left
invariant-loop-left l = record {
  sought : IsSought l.number l.text l.at l.left;
  shorter : length l.left ≤ length l.text;
  within : l.at + length l.left ≤ l.number + length l.text;
}

abbrev pub decreases-loop-left : goal.decreases-loop-left
decreases-loop-left l = length l.left
