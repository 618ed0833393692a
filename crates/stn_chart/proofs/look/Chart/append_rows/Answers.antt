use Rattle.std.proofs.{Common.{◌+◌, add-one, arith, sym}, lemmas.List.append-nil}
use Rattle.stn_text.proofs.Growing.{range_grown}
use Rattle.stn_chart.specs.{Rows.row_text, Seen.seen_chart}
use Rattle.stn_chart.proofs.look.Chart.append_rows.Goals as goal

-- no row stands there before the first
pub loop-before-init : goal.loop-before-init
loop-before-init g c = sym (append-nil c.args.out.now.items)

pub loop-before-preserved : goal.loop-before-preserved
loop-before-preserved g c =
    let before = c.loop-before.before in
    range_grown (row_text (seen_chart c.args.self.now)) 1 before (before + 1) (before + 1) c.args.out.now.items c.loop-before.out.items c.append_row.new.out.items
    (omega arith) (add-one before) c.loop-before.invariant c.in_ok-append_row.ensures
