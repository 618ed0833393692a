use Rattle.std.proofs.Common.{◌+◌, add-one, arith}
use Rattle.stn_text.proofs.Growing.{range_grown}
use Rattle.stn_walk.specs.{Walk.walk_row, Seen.seen_walk}
use Rattle.stn_walk.proofs.walk.Walk.append_rows.Goals as goal

pub loop-row-preserved : goal.loop-row-preserved
loop-row-preserved g c =
    let row = c.loop-row.row in
    range_grown (walk_row (seen_walk c.args.self.now)) 0 row row (row + 1) c.args.out.now.items c.loop-row.out.items c.append_row.new.out.items
    (omega arith) (add-one row) c.loop-row.invariant c.in_ok-append_row.ensures
