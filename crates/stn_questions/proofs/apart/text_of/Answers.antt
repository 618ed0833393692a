use Rattle.std.proofs.Common.{◌++◌, ◌∙◌}
use Rattle.stn_site.specs.{Bounds.all_bounds, Lines.range_line}
use Rattle.stn_net.{specs.Ranges.IsRange, proofs.Ranges.range_of_ends}
use Rattle.stn_questions.proofs.Reasons.{reason_part}
use Rattle.stn_questions.proofs.apart.text_of.Goals as goal

pub returns : goal.returns
returns g c =
    let source = c.args.plan.now.source in
    let state = c.args.plan.now.state in
    let from = c.args.from in
    let to = c.args.to in
    let ends = c.args.ends.now in
    reason_part source state from to (λ bounds. IsRange bounds from to) (range_line from to) _ _ ends c.append_range_line.new.out.items c.append_ends.new.out.items
    c.requires (range_of_ends (all_bounds source state) from to ends.onward.sum ends.back.sum c.requires.onward.tightest c.requires.back.tightest)
    (c.in_ok-append_range_line.ensures.line ∙ (λ i. c.new-text.ensures.items i ++ range_line from to (c.times_of-least.ensures.0 i) (c.times_of-least.ensures.1 i)))
    c.in_ok-append_ends.ensures
