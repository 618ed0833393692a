use Rattle.std.proofs.Common.{◌≡◌, ◌<◌, ◌||◌, ℕ, false, length, take, get_or}
use Rattle.stn_guard.specs.{Owners.owner_of, Making.names_event}
use Rattle.stn_guard.proofs.guarding.note_named.Given as goal

abbrev pub invariant-loop-bound : goal.invariant-loop-bound
invariant-loop-bound l = record {
  one_each : length l.named ≡ length l.initial.named;
  named : (event : ℕ) → event < length l.initial.named → get_or l.named event false
      ≡ (get_or l.initial.named event false || names_event (owner_of l.owners) (take l.bound-index l.bounds) event);
}
