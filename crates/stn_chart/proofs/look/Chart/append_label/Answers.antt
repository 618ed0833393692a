use Rattle.std.proofs.Common.{append_assoc}
use Rattle.stn_drawing.proofs.Grown.{on_ok, then, last}
use Rattle.stn_chart.proofs.look.Chart.append_label.Goals as goal

pub returns : goal.returns
returns g c =
    let out = c.args.out.now.items in
    let first = on_ok _ c.write.result c.in_ok-in_memory.ensures c.write.ensures.bytes in
    let second = then out _ _ first c.in_ok-append_short_name.ensures in
    last c.extend_from_slice.result out _ _ _ second c.extend_from_slice.ensures.items (simp (append_assoc, c.words_base-base.ensures))
