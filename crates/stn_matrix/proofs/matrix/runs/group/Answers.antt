use Rattle.std.proofs.Common.{◌≡◌, length, arith}
use Rattle.stn_net.specs.Matrix.Table.{entry}
use Rattle.stn_matrix.proofs.{Passing.{nearer_moved, runs_more}, matrix.runs.group.Goals.{then-begin-columns, else-begin-columns}}
use Rattle.stn_matrix.proofs.matrix.runs.group.Goals as goal

pub loop-hub-preserved : goal.loop-hub-preserved
loop-hub-preserved g c =
    let far = entry c.args.square.now in
    let arc = c.args.arc.now in
    let so_far = c.loop-hub.invariant in
    elim c.if-begin-columns.branch [
      | then-begin-columns w ↦ (
          let moved = w.gather-end.new.columns in
          let end = w.gather-end.result in
          let same : length moved ≡ length c.loop-hub.columns = omega arith in
          let runs = runs_more far arc.to c.loop-hub.columns moved c.loop-hub.ends c.loop-hub.begin end so_far.runs same
          w.gather-end.ensures.begins w.gather-end.ensures.ends w.gather-end.ensures.kept w.gather-end.ensures.beyond in
          let nearer = nearer_moved c.args.square.now.events far arc.from arc.to arc.weight c.loop-hub.columns moved _ so_far.nearer w.gather-end.ensures.permutation in
          rw (w.columns-is, w.ends-is, w.begin-is) (record { nearer = nearer; runs = runs }))
      | else-begin-columns w ↦ rw (w.columns-is, w.ends-is, w.begin-is) so_far
    ]
