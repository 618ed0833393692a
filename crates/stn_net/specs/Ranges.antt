-- How far two events can be apart.
use Rattle.std.specs.Prelude.{◌≡◌, ◌↔◌, ℕ, ℤ, ◌-ℤ◌, ◌≤ℤ◌, List}
use Rattle.stn_net.specs.{Difference.Difference, Schedule.IsSchedule}

-- in some schedule of the bounds `to` comes just so long after `from`
abbrev pub CanBeApart : List Difference → ℕ → ℕ → ℤ → Type 0
CanBeApart bounds from to apart = (time : ℕ → ℤ) × IsSchedule bounds time × ((time to -ℤ time from) ≡ apart)

-- over all schedules of the bounds `to` comes so long after `from` as lies from the least to the greatest, both included
abbrev pub IsRange : List Difference → ℕ → ℕ → ℤ → ℤ → Type 0
IsRange bounds from to least greatest = (apart : ℤ) → (CanBeApart bounds from to apart ↔ ((least ≤ℤ apart) × (apart ≤ℤ greatest)))
