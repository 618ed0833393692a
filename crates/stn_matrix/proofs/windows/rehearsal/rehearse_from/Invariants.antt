use Rattle.std.{proofs.Common.{◌≡◌, ◌+◌, List, length, not}, specs.Prelude.count_by}
use Rattle.stn_net.specs.{Difference.Difference, Matrix.Tightest.IsExact, Windows.Dispatch.NamesLeft}
use Rattle.stn_matrix.proofs.UnderWay.{IsUnderWay}
use Rattle.stn_matrix.proofs.windows.rehearsal.rehearse_from.Given as goal

abbrev pub invariant-loop-answer : goal.invariant-loop-answer
invariant-loop-answer g l = record {
  one_each : length l.finished.items ≡ l.tightened.events + 1;
  left : NamesLeft l.finished.items l.answer;
  under_way : (bounds : List Difference) → IsExact bounds l.matrix → IsUnderWay bounds l.done l.fn.now l.runs.items l.tightened l.finished.items l.answer;
}

abbrev pub decreases-loop-answer : goal.decreases-loop-answer
decreases-loop-answer g l = count_by not l.finished.items
