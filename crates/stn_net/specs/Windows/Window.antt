use Rattle.std.specs.Prelude.{◌≡◌, ℕ, ℤ, ◌≤ℤ◌, ◌↔◌, List}
use Rattle.stn_net.specs.{Difference.Difference, Schedule.IsSchedule}

-- the event takes this time in some schedule
abbrev pub IsInWindow : List Difference → ℕ → ℤ → Type 0
IsInWindow bounds event time = (times : ℕ → ℤ) × IsSchedule bounds times × (times event ≡ time)

-- the times that the event takes in some schedule are those from the earliest to the latest, both included
abbrev pub IsWindow : List Difference → ℕ → ℤ → ℤ → Type 0
IsWindow bounds event earliest latest = (time : ℤ) → (IsInWindow bounds event time ↔ ((earliest ≤ℤ time) × (time ≤ℤ latest)))
