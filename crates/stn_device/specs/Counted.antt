use Rattle.std.specs.Prelude.{◌≡◌, ℕ, ◌+◌, ◌-◌, ◌^◌, min}
use Rattle.stn_device.specs.declared.counted.Counted.{Counted}

-- the device that is counted
abbrev pub counted_device : {D : Type 0} → Counted D → D
counted_device counted = counted.device

-- how many of its calls failed
abbrev pub failure_count : {D : Type 0} → Counted D → ℕ
failure_count counted = counted.failures

-- one more call failed, up to the greatest count
abbrev pub CountsFailure : {D : Type 0} → Counted D → Counted D → Type 0
CountsFailure old new = failure_count new ≡ min (failure_count old + 1) (2 ^ 64 - 1)

-- no more calls failed
abbrev pub KeepsCount : {D : Type 0} → Counted D → Counted D → Type 0
KeepsCount old new = failure_count new ≡ failure_count old
