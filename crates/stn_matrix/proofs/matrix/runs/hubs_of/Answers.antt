use Rattle.std.proofs.{Common.{◌≤◌, arith}, lemmas.Int.ints}
use Rattle.stn_net.{specs.Matrix.Table.entry, proofs.Closure.closed_within}
use Rattle.stn_matrix.proofs.matrix.runs.hubs_of.Goals as goal

pub overflow_sub-gain : goal.overflow_sub-gain
overflow_sub-gain g c =
    let far = entry c.args.square.now in
    let column : c.from-place.result ≤ c.args.square.now.events = rw c.from-place.ensures (c.requires.within c.loop-column.column-index 0 c.loop-column-test.true) in
    let from : c.from.result ≤ c.args.square.now.events = rw (c.from.ensures, c.number.ensures.value) c.requires.from in
    let to : c.from-2.result ≤ c.args.square.now.events = rw (c.from-2.ensures, c.number-2.ensures.value) c.requires.to in
    let first = closed_within c.args.square.now.events far c.requires.closed c.from.result c.from-place.result from column in
    let second = closed_within c.args.square.now.events far c.requires.closed c.from-2.result c.from-place.result to column in
    let own = c.row-own.ensures.entries c.from-place.result column in
    let onward = c.row-onward.ensures.entries c.from-place.result column in
    omega (arith, ints)
