use Rattle.std.proofs.Common.{◌≡◌, ◌<◌, ℕ, false}
use Rattle.stn_conflict.specs.Relaxation.{is_fresh}
use Rattle.stn_conflict.proofs.relaxation.Search.first_fresh.Given as goal

abbrev pub invariant-loop-event : goal.invariant-loop-event
invariant-loop-event g l = (x : ℕ) → x < l.event → is_fresh l.self.fresh.items x ≡ false
