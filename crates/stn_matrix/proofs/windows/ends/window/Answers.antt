use Rattle.std.proofs.Common.{◌≡◌, neg_ℤ}
use Rattle.stn_net.{specs.Matrix.Table.far_of, proofs.WindowEnds.window_of_exact}
use Rattle.stn_matrix.proofs.windows.ends.window.Goals as goal

pub returns : goal.returns
returns g c = λ bounds exact.
    let table = c.args.matrix.now in
    let event = c.args.event in
    let earliest : c.neg-earliest.result ≡ neg_ℤ (far_of table event 0) = rw (c.far.ensures.entry, c.origin-origin.ensures) at c.neg-earliest.ensures in
    let latest : c.far-latest.result ≡ far_of table 0 event = rw c.origin-origin.ensures at c.far-latest.ensures.entry in
    rw (earliest, latest) (window_of_exact bounds table event exact c.requires)
