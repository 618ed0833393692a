use Rattle.std.proofs.Common.{refl}
use Rattle.stn_drawing.proofs.Grown.{then, last}
use Rattle.stn_chart.proofs.look.Chart.append_row.Goals as goal

pub returns : goal.returns
returns g c =
    let out = c.args.out.now.items in
    let title = c.in_ok-append_title.ensures in
    let label = then out _ _ title c.in_ok-append_label.ensures in
    let solid = then out _ _ label c.in_ok-append_solid.ensures in
    let rest = then out _ _ solid c.in_ok-append_rest.ensures in
    let mark = then out _ _ rest c.in_ok-append_latest_mark.ensures in
    let owner = then out _ _ mark c.in_ok-append_owner.ensures in
    let arrow = then out _ _ owner c.in_ok-append_arrow.ensures in
    last c.extend_from_slice.result out _ _ _ arrow c.extend_from_slice.ensures.items refl
