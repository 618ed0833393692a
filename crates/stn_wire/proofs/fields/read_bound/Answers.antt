use Rattle.std.proofs.Common.{◌++◌, ap, ◌∙◌}
use Rattle.stn_wire.proofs.Parts.{split, bound_read}
use Rattle.stn_wire.proofs.fields.read_bound.Goals as goal

pub returns : goal.returns
returns c =
    let one = c.split_at.result in
    let two = c.split_at-2.result in
    let sides = c.split_at-3.result in
    let cut = split 2 c.args.bytes.now one.0.now one.1.now c.split_at.ensures.front c.split_at.ensures.back
    ∙ ap (λ l. one.0.now ++ l) (split 2 one.1.now two.0.now two.1.now c.split_at-2.ensures.front c.split_at-2.ensures.back
    ∙ ap (λ l. two.0.now ++ l) (split c.side_width.result two.1.now sides.0.now sides.1.now c.split_at-3.ensures.front c.split_at-3.ensures.back)) in
    bound_read c.args.layout c.args.mark c.args.bytes.now one.0.now two.0.now sides.0.now sides.1.now cut c.in_ok-from.from c.in_ok-to.to c.in_ok-lo.lo c.in_ok-hi.hi
    c.in_ok-from.ensures.0 c.in_ok-to.ensures.0 c.in_ok-lo.ensures.0 c.in_ok-hi.ensures.0 c.in_ok-from.ensures.1 c.in_ok-to.ensures.1 c.in_ok-lo.ensures.1 c.in_ok-hi.ensures.1
    c.new.result c.ok.result c.new.ensures.made c.new.ensures.sound c.new.ensures.fault c.ok.ensures.value
