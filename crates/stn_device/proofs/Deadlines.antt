-- Time that passes over several calls of a stream, by a deadline.
use Rattle.std.{proofs.Common.{◌≡◌, ℕ, ◌<◌, ◌≤◌, Option, None, Some}, specs.Prelude.⊤}

-- calls were made before the deadline alone, and are over by then
abbrev pub Waits : ℕ → Option ℕ → Option ℕ → Type 0
Waits end None new = ⊤
Waits end (Some old) None = ⊥
Waits end (Some old) (Some new) = (old ≤ new) × (old < end → new ≤ end) × (end ≤ old → new ≡ old)
