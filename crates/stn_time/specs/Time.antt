use Rattle.std.specs.Prelude.{ℤ, pos, neg_ℤ, ◌≤ℤ◌}

-- the horizon: the greatest time and the greatest difference of two times, in milliseconds
abbrev pub horizon : ℤ
horizon = pos 31536000000

-- the number of milliseconds lies within the horizon, on either side of zero
abbrev pub IsWithinHorizon : ℤ → Type 0
IsWithinHorizon millis = (neg_ℤ horizon ≤ℤ millis) × (millis ≤ℤ horizon)
