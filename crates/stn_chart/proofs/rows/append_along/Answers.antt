use Rattle.std.{proofs.Common.{◌++◌, codes}, specs.Fmt.decimal}
use Rattle.stn_drawing.proofs.Grown.{written}
use Rattle.stn_chart.proofs.Drawing.{regrouped}
use Rattle.stn_chart.proofs.rows.append_along.Goals as goal

pub returns : goal.returns
returns g c =
    let a = c.args in
    written c.in_memory.result c.write.result _ _ _ c.in_memory.ensures c.write.ensures.bytes
    (regrouped a.out.now.items (codes "<path class='v' d='M" ++ decimal a.left) (codes " ") (decimal a.begin) (codes "V") (decimal a.end) (codes "H") (decimal a.right) a.tip.now (codes "'/>"))
