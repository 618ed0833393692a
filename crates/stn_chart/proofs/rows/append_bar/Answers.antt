use Rattle.std.{proofs.Common.codes, specs.Fmt.decimal}
use Rattle.stn_drawing.proofs.Grown.{written}
use Rattle.stn_chart.proofs.Drawing.{regrouped}
use Rattle.stn_chart.proofs.rows.append_bar.Goals as goal

pub returns : goal.returns
returns g c =
    written c.in_memory.result c.write.result _ _ _ c.in_memory.ensures c.write.ensures.bytes
    (regrouped c.args.out.now.items (codes "<path class='") c.args.class.now (codes "' d='M") (decimal c.args.left) (codes " ") (decimal c.args.middle) (codes "h") (decimal c.args.width) (codes "'/>"))
