use Rattle.std.proofs.Common.{◌≡◌, ℕ, ◌≤◌, ◌||◌, false, length, slice_index_or}
use Rattle.stn_net.specs.Event.{most_events}
use Rattle.stn_site.specs.Report.{is_done, says_done}
use Rattle.stn_site.proofs.done.done_flags.Given as goal

abbrev pub invariant-loop-record : goal.invariant-loop-record
invariant-loop-record g l = record {
  one_each : length l.flags ≡ 513;
  done : (event : ℕ) → event ≤ most_events → (says_done l.record-iterator event || slice_index_or l.flags event false) ≡ is_done l.records event;
}
