-- Times at which steps may start, however long they take then (Vidal and Fargier, 1999: strong controllability).
use Rattle.std.specs.Prelude.{ℕ, ℤ, pos, ◌-ℤ◌, ◌≤ℤ◌, ◌==◌, List, find, unwrap_or}
use Rattle.stn_net.specs.{Difference.Difference, Schedule.IsSchedule}

-- an event stands where it stands
abbrev pub still : ℕ → Difference
still event = record { from = event; to = event; lo = pos 0; hi = pos 0 }

-- what sets an event: the duration that it ends; an event that ends none is set by itself
abbrev pub setting_of : List Difference → ℕ → Difference
setting_of durations event = unwrap_or (find (λ duration. duration.to == event) durations) (still event)

-- an event comes so long after the promised time of the start of what sets it as that lets it
abbrev pub Follows : (ℕ → ℤ) → ℤ → Difference → Type 0
Follows promised time setting = (setting.lo ≤ℤ (time -ℤ promised setting.from)) × ((time -ℤ promised setting.from) ≤ℤ setting.hi)

-- the times keep to promised ones: an event that ends no duration comes at its promised time, and one that ends a duration so long
-- after the promised time of its start as the duration lets it
abbrev pub Keeps : List Difference → (ℕ → ℤ) → (ℕ → ℤ) → Type 0
Keeps durations promised time = (event : ℕ) → Follows promised (time event) (setting_of durations event)

-- the times are a promise: whatever the durations, those that keep to them are a schedule
abbrev pub Promises : List Difference → List Difference → (ℕ → ℤ) → Type 0
Promises durations bounds promised = (time : ℕ → ℤ) → Keeps durations promised time → IsSchedule bounds time
