use Rattle.std.proofs.Common.{refl}
use Rattle.stn_drawing.proofs.Grown.{then, last}
use Rattle.stn_walk.proofs.walk.Walk.append.Goals as goal

pub returns : goal.returns
returns g c =
    let out = c.args.out.now.items in
    let axis = then out _ _ c.in_ok-append_head.ensures c.in_ok-append.ensures in
    let drops = then out _ _ axis c.in_ok-append_drops.ensures in
    let rows = then out _ _ drops c.in_ok-append_rows.ensures in
    let row = then out _ _ rows c.in_ok-append_last_row.ensures in
    let foot = then out _ _ row c.in_ok-append_foot.ensures in
    last c.extend_from_slice.result out _ _ _ foot c.extend_from_slice.ensures.items refl
