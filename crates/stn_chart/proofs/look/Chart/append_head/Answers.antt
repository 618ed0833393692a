use Rattle.std.proofs.Common.{◌++◌, refl, ap, ◌∙◌}
use Rattle.stn_drawing.{specs.Sheet.open_text, proofs.Grown.{then, further}}
use Rattle.stn_chart.proofs.look.Chart.append_head.Goals as goal

pub returns : goal.returns
returns g c =
    let out = c.args.out.now.items in
    let opening = c.in_ok-append_opening.ensures ∙ ap (λ height. out ++ open_text c.args.self.now.look.now.title.now height) c.height_of.ensures in
    let style = then out _ _ opening c.in_ok-append_style.ensures in
    let paper = then out _ _ style c.in_ok-append_ground.ensures in
    let heading = then out _ _ paper c.in_ok-append_heading.ensures in
    further c.append_summary.result out _ _ _ _ heading c.append_summary.ensures refl
