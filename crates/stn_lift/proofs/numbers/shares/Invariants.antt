use Rattle.std.proofs.Common.{◌≡◌, ◌+◌, ◌-◌, ◌≤◌, nat_eq, length, drop}
use Rattle.stn_lift.specs.Footprints.{share}
use Rattle.stn_lift.proofs.numbers.shares.Given as goal

-- what is left of both has a number in common where the whole has
abbrev pub invariant-loop-i : goal.invariant-loop-i
invariant-loop-i l = record {
  first : l.i ≤ length l.ours;
  second : l.j ≤ length l.theirs;
  same : share nat_eq (drop l.i l.ours) (drop l.j l.theirs) ≡ share nat_eq l.ours l.theirs;
}

abbrev pub decreases-loop-i : goal.decreases-loop-i
decreases-loop-i l = (length l.ours - l.i) + (length l.theirs - l.j)
