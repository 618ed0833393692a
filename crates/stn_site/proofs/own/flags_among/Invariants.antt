use Rattle.std.proofs.Common.{◌≡◌, ℕ, ◌≤◌, ◌<◌, ◌||◌, not, false, length, get_or}
use Rattle.stn_net.specs.Event.{most_events}
use Rattle.stn_site.specs.{Report.is_done, Own.is_own}
use Rattle.stn_site.proofs.own.flags_among.Given as goal

abbrev pub invariant-loop-number : goal.invariant-loop-number
invariant-loop-number g l = record {
  one_each : length l.flags ≡ 513;
  left : (event : ℕ) → event < l.number → get_or l.flags event false ≡ (is_done l.plan.state event || not (is_own l.own event));
  later : (event : ℕ) → l.number ≤ event → event ≤ most_events → get_or l.flags event false ≡ is_done l.plan.state event;
}
