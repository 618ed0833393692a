use Rattle.std.proofs.{Common.{◌<◌, length, take, ap, ◌∙◌, arith}, lemmas.Grind.common_steps}
use Rattle.stn_wire.proofs.Chunks.{next_item}
use Rattle.stn_wire.proofs.lists.read_items.Goals as goal

pub returns-then-rest-size : goal.returns-then-rest-size
returns-then-rest-size g c value are is =
    let fewer : length c.items.items.items < length value.0 = omega (arith, c.items.invariant.many, are.many) in
    let next = next_item (g.T.Item.IsSpelled c.args.layout) (g.T.Item.bytes_of c.args.layout) (g.T.Item.wide c.args.layout) (g.met.T.Item.sized c.args.layout) c.items.items.items value.0 c.args.bytes.now c.items.rest.now value.1 fewer are.each c.items.invariant.text is in
    omega (arith, next.long, c.size.ensures)

pub returns-in-None : goal.returns-in-None
returns-in-None g c value are is =
    let fewer : length c.items.items.items < length value.0 = omega (arith, c.items.invariant.many, are.many) in
    let next = next_item (g.T.Item.IsSpelled c.args.layout) (g.T.Item.bytes_of c.args.layout) (g.T.Item.wide c.args.layout) (g.met.T.Item.sized c.args.layout) c.items.items.items value.0 c.args.bytes.now c.items.rest.now value.1 fewer are.each c.items.invariant.text is in
    c.in-None.ensures next.item next.valid (c.split_at.ensures.front ∙ ap (λ n. take n c.items.rest.now) c.size-in-items.ensures ∙ next.front)

pub items-preserved : goal.items-preserved
items-preserved g c = grind (arith, common_steps)
