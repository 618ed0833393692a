use Rattle.std.specs.Prelude.{◌≡◌, ℕ, ℤ, pos, ◌<◌, ◌-ℤ◌, ◌≤ℤ◌, List, length, All, slice_index_or}
use Rattle.stn_net.specs.Difference.{Difference}

-- the times meet a bound
abbrev pub Meets : (ℕ → ℤ) → Difference → Type 0
Meets time bound = (bound.lo ≤ℤ (time bound.to -ℤ time bound.from)) × ((time bound.to -ℤ time bound.from) ≤ℤ bound.hi)

-- the times are a schedule of the bounds: the origin stands at 0, and each bound is met
pub record IsSchedule (bounds : List Difference) (time : ℕ → ℤ) : Type 0 where
  pub origin : time 0 ≡ pos 0
  pub met : All (Meets time) bounds

-- the bounds have a schedule
abbrev pub HasSchedule : List Difference → Type 0
HasSchedule bounds = (time : ℕ → ℤ) × IsSchedule bounds time

-- the times of a list, by the number of the event
abbrev pub times_of : List ℤ → ℕ → ℤ
times_of times event = slice_index_or times event (pos 0)

-- both events of the bound have a time in the list
pub record NamesTimes (times : List ℤ) (bound : Difference) : Type 0 where
  pub from : bound.from < length times
  pub to : bound.to < length times
