use Rattle.std.proofs.Common.{refl}
use Rattle.stn_drawing.proofs.Grown.{then, last}
use Rattle.stn_chart.proofs.look.Chart.append_style.Goals as goal

pub returns : goal.returns
returns g c =
    let out = c.args.out.now.items in
    let sites = then out _ _ c.in_ok-extend_from_slice.ensures.items c.in_ok-append_sites.ensures in
    last c.extend_from_slice-2.result out _ _ _ sites c.extend_from_slice-2.ensures.items refl
