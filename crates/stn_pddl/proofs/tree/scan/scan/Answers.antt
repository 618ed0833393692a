use Rattle.std.proofs.Common.{rules}
use Rattle.stn_pddl.proofs.tree.{Rows.line_after-most, Scanned.scanned-at}
use Rattle.stn_pddl.proofs.tree.scan.scan.Goals as goal

pub loop-byte-preserved : goal.loop-byte-preserved
loop-byte-preserved c = search (rules, scanned-at, line_after-most)
