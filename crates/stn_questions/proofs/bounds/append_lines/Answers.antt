use Rattle.std.proofs.Common.{◌+◌, ◌++◌, ◌∙◌, add-one, arith}
use Rattle.stn_questions.specs.Bounds.{named_line, listed_line}
use Rattle.stn_text.proofs.Growing.{range_grown}
use Rattle.stn_questions.proofs.bounds.append_lines.Goals as goal

pub loop-place-preserved : goal.loop-place-preserved
loop-place-preserved g c =
    let place = c.loop-place.place in
    range_grown (listed_line c.args.base.now c.args.ids.now c.args.others.now) 0 place place (place + 1) c.args.out.now.items c.loop-place.out.items c.append_named.new.out.items
    (omega arith) (add-one place) c.loop-place.invariant
    (c.in_ok-append_named.ensures ∙ (λ i. c.loop-place.out.items ++ named_line (c.bound_name-name.ensures i) (c.bound_at-bound.ensures i)))
