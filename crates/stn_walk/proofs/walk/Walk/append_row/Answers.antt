use Rattle.std.proofs.Common.{refl}
use Rattle.stn_drawing.proofs.Grown.{then, last}
use Rattle.stn_walk.proofs.walk.Walk.append_row.Goals as goal

pub returns : goal.returns
returns g c =
    let out = c.args.out.now.items in
    let title = then out _ _ c.in_ok-extend_from_slice.ensures.items c.in_ok-append_title.ensures in
    let words = then out _ _ title c.in_ok-append_words.ensures in
    let mending = then out _ _ words c.in_ok-append_mending.ensures in
    let label = then out _ _ mending c.in_ok-append_label.ensures in
    let arrow = then out _ _ label c.in_ok-append_arrow.ensures in
    last c.extend_from_slice-2.result out _ _ _ arrow c.extend_from_slice-2.ensures.items refl
