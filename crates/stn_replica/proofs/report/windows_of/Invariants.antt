use Rattle.std.proofs.Common.{List}
use Rattle.stn_net.specs.{Difference.Difference, Matrix.Tightest.IsExact}
use Rattle.stn_site.proofs.Windowing.{AreFirst}
use Rattle.stn_replica.proofs.report.windows_of.Given as goal

abbrev pub invariant-loop-number : goal.invariant-loop-number
invariant-loop-number g l = (bounds : List Difference) → IsExact bounds l.matrix → AreFirst bounds l.number l.windows.items
