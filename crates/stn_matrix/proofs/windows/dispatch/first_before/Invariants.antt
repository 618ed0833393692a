use Rattle.std.proofs.Common.{ℕ, ◌<◌, ◌≤ℤ◌}
use Rattle.stn_net.specs.{Matrix.Table.far_of, Windows.Dispatch.IsLeft}
use Rattle.stn_matrix.proofs.windows.dispatch.first_before.Given as goal

abbrev pub invariant-loop-number : goal.invariant-loop-number
invariant-loop-number g l = (event : ℕ) → event < l.number → IsLeft l.done event → l.limit ≤ℤ far_of l.matrix l.from event
