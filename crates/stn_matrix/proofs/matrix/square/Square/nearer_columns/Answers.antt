use Rattle.std.proofs.{Common.{◌≤◌, ◌<◌, ◌∙◌, ◌+ℤ◌, ◌≤ℤ◌, length, take, arith}, lemmas.{Int.ints, List.take_more_set}}
use Rattle.stn_net.{specs.Matrix.Table.entry, proofs.Closure.closed_within}
use Rattle.stn_matrix.proofs.{Entries.{nearer_skip, nearer_more}, matrix.square.Square.nearer_columns.Goals.{then-through-own, else-through-own}}
use Rattle.stn_matrix.proofs.matrix.square.Square.nearer_columns.Goals as goal

pub overflow_add-through : goal.overflow_add-through
overflow_add-through g c =
    let column : c.loop-column.column ≤ c.args.self.now.events = omega arith in
    let to : c.from-2.result ≤ c.args.self.now.events = rw (c.from-2.ensures, c.number-2.ensures.value) c.requires.to in
    let within = closed_within c.args.self.now.events (entry c.args.self.now) c.requires.closed c.from-2.result c.loop-column.column to column in
    let onward = c.row-onward.ensures.entries c.loop-column.column column in
    omega (arith, ints)

pub loop-column-preserved : goal.loop-column-preserved
loop-column-preserved g c =
    let far = entry c.args.self.now in
    let column = c.loop-column.column in
    let arc = c.args.arc in
    let so_far = c.loop-column.invariant.listed in
    let before = take c.loop-column.count c.loop-column.columns in
    let few = c.loop-column.invariant.few in
    let cs : column ≤ c.args.self.now.events = omega arith in
    elim c.if-through-own.branch [
      | then-through-own w ↦
          (let there : c.loop-column.count < length c.loop-column.columns = omega (arith, c.requires.long, c.loop-column.auto.columns) in
          rw (w.count-is, w.columns-is, take_more_set c.loop-column.columns c.loop-column.count column there)
          (record { few = omega arith; listed = nearer_more c.args.self.now.events far arc.from arc.to arc.weight before column so_far cs }))
      | else-through-own w ↦
          (let from_is = c.from.ensures ∙ c.number.ensures.value in
          let to_is = c.from-2.ensures ∙ c.number-2.ensures.value in
          let onward = rw to_is at (c.row-onward.ensures.entries column cs) in
          let own = rw from_is at (c.row-own.ensures.entries column cs) in
          let weight = c.get-weight.ensures.value in
          let to_column = closed_within c.args.self.now.events far c.requires.closed arc.to column c.requires.to cs in
          let longer : far arc.from column ≤ℤ (arc.weight +ℤ far arc.to column) = omega (arith, ints) in
          rw (w.count-is, w.columns-is)
          (record { few = omega arith; listed = nearer_skip c.args.self.now.events far arc.from arc.to arc.weight before column so_far longer }))
    ]
