use Rattle.std.proofs.Common.{subst}
use Rattle.stn_net.{specs.{Horizon.horizon_bounds, Matrix.{Table.Table, Tightest.IsExact}}, proofs.Widest.exact_widest}
use Rattle.stn_matrix.proofs.matrix.Matrix.bare.Goals as goal

pub returns-clause-exact : goal.returns-clause-exact
returns-clause-exact g c =
    let square = c.in_ok-square.square in
    let table : Table = record { events = square.events; entries = square.entries; steps = 0 } in
    subst (λ n. IsExact (horizon_bounds n) table) c.in_ok-square.ensures.events (exact_widest table c.in_ok-square.ensures.widest)
