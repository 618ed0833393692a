use Rattle.std.proofs.Common.{◌+◌, ◌++◌}
use Rattle.stn_conflict.{specs.Relaxation.AreFirstRows, proofs.Rows.first_own}
use Rattle.stn_conflict.proofs.outgoing.Rows.of.Goals as goal

-- no links are there yet
pub add-requires-clause-rows : goal.add-requires-clause-rows
add-requires-clause-rows g c =
    let none : AreFirstRows c.args.direction c.args.whole (c.args.base.now ++ c.args.extra.now) (c.args.events + 1) c.in_ok-rows.rows = c.in_ok-rows.ensures (c.args.base.now ++ c.args.extra.now) in
    first_own none
