use Rattle.std.proofs.Common.{sym}
use Rattle.stn_pddl.{specs.Tree.{Trees.rows_from, Cursors.rows_at}, proofs.tree.Scanned.one-list}
use Rattle.stn_pddl.proofs.tree.scan.start.Goals as goal

pub returns-clause-one : goal.returns-clause-one
unfolding rows_at rows_from
returns-clause-one c = rw c.new.ensures (one-list _ (sym c.in_ok-scan.ensures))
