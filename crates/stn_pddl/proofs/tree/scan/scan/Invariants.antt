use Rattle.std.proofs.Common.{◌≡◌, ◌+◌, ◌≤◌, false, drop}
use Rattle.stn_pddl.specs.{declared.tree.scan.Place.TheVariants.Before, Tree.Scan.scanned}
use Rattle.stn_pddl.proofs.tree.scan.scan.Given as goal

abbrev pub invariant-loop-byte : goal.invariant-loop-byte
invariant-loop-byte l =
    (l.line ≤ l.byte-index + 1) × (scanned l.comment l.line l.place (drop l.byte-index l.text) ≡ scanned false 1 Before l.text)
