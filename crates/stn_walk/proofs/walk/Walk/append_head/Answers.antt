use Rattle.std.proofs.Common.{◌++◌, ◌+◌, refl, ap, ◌∙◌}
use Rattle.stn_drawing.{specs.Sheet.{open_text, paper_text}, proofs.Grown.{then, further}}
use Rattle.stn_walk.proofs.walk.Walk.append_head.Goals as goal

pub returns : goal.returns
returns g c =
    let out = c.args.out.now.items in
    let end = c.top_of-end.ensures.value in
    let opening = c.in_ok-append_opening.ensures ∙ ap (λ n. out ++ open_text c.args.self.now.title.now (n + 36)) end in
    let style = then out _ _ opening c.in_ok-extend_from_slice.ensures.items in
    let paper = then out _ _ style (c.in_ok-append_paper.ensures ∙ (λ i. c.extend_from_slice.new.self.items ++ paper_text (end i + 36) (c.top_of.ensures.value i) (end i))) in
    let heading = then out _ _ paper c.in_ok-append_heading.ensures in
    further c.append_summary.result out _ _ _ _ heading c.append_summary.ensures refl
