use Rattle.std.proofs.{Common.{◌≤◌, ◌*◌, arith}, lemmas.Int.ints}
use Rattle.stn_net.{specs.Matrix.Table.entry, proofs.Closure.closed_within}
use Rattle.stn_matrix.proofs.matrix.runs.changes_many_rows.Goals as goal

pub overflow_add-entry : goal.overflow_add-entry
overflow_add-entry g c =
    let row = 8 * c.loop-sample.sample in
    let rows : row ≤ c.args.square.now.events = omega arith in
    let from : c.from-from.result ≤ c.args.square.now.events = rw (c.from-from.ensures, c.number.ensures.value) c.requires.from in
    let within = closed_within c.args.square.now.events (entry c.args.square.now) c.requires.closed row c.from-from.result rows from in
    omega (arith, ints)
