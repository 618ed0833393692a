use Rattle.std.proofs.Common.{refl}
use Rattle.stn_drawing.proofs.Grown.{then, last}
use Rattle.stn_chart.proofs.look.Chart.append.Goals as goal

pub returns : goal.returns
returns g c =
    let out = c.args.out.now.items in
    let axis = then out _ _ c.in_ok-append_head.ensures c.in_ok-append.ensures in
    let rows = then out _ _ axis c.in_ok-append_rows.ensures in
    let present = then out _ _ rows c.in_ok-append_present.ensures in
    let legend = then out _ _ present c.in_ok-append_legend.ensures in
    last c.extend_from_slice.result out _ _ _ legend c.extend_from_slice.ensures.items refl
