-- Where a site chooses all steps, it chooses each event.
use Rattle.std.proofs.Common.{rules, ◌≡◌, ℕ, ◌*◌, ◌≤◌, true, ◌&&◌, leb}
use Rattle.stn_lift.specs.BaseBounds.{step_of}

pub has_all : (steps event : ℕ) → event ≤ 2 * steps → (leb 0 (step_of event) && leb (step_of event) steps) ≡ true
has_all steps event within = search rules
