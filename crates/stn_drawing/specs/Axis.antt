-- The axis of time, in milliseconds.
use Rattle.std.specs.Prelude.{ℕ, ◌+◌, ◌-◌, ◌/◌, nat_lt, nat_le, Bool, List, [], ◌∷◌, codes, if◌then◌else◌}

-- the gaps that two ticks may have: 1, 2, 5, 10, 15 or 30 seconds or minutes; 1, 2, 5, 10 or 15 hours; 1, 2, 5, 10, 15, 30, 60
-- or 150 days
abbrev pub gaps : List ℕ
gaps = 1000 ∷ 2000 ∷ 5000 ∷ 10000 ∷ 15000 ∷ 30000
    ∷ 60000 ∷ 120000 ∷ 300000 ∷ 600000 ∷ 900000 ∷ 1800000
    ∷ 3600000 ∷ 7200000 ∷ 18000000 ∷ 36000000 ∷ 54000000
    ∷ 86400000 ∷ 172800000 ∷ 432000000 ∷ 864000000 ∷ 1296000000 ∷ 2592000000 ∷ 5184000000 ∷ 12960000000 ∷ []

abbrev pub widest_gap : ℕ
widest_gap = 25920000000

-- an axis has at most so many gaps
abbrev pub most_gaps : ℕ
most_gaps = 10

-- how many gaps it takes to reach so far
abbrev pub gaps_in : ℕ → ℕ → ℕ
gaps_in gap far = (far + (gap - 1)) / gap

-- with this gap, an axis that reaches so far before the time 0 and so far after it has few enough gaps
abbrev pub fits : ℕ → ℕ → ℕ → Bool
fits before after gap = nat_le (gaps_in gap before + gaps_in gap after) most_gaps

-- the first of the gaps that fits; the widest, if none of them does
abbrev pub first_gap : ℕ → ℕ → List ℕ → ℕ
first_gap before after [] = widest_gap
first_gap before after (gap ∷ rest) = if fits before after gap then gap else first_gap before after rest

-- the gap of an axis that reaches so far
abbrev pub gap_of : ℕ → ℕ → ℕ
gap_of before after = first_gap before after gaps

-- the unit in which the ticks are counted
abbrev pub unit_of : ℕ → ℕ
unit_of gap = if nat_lt gap 60000 then 1000 else (if nat_lt gap 3600000 then 60000 else (if nat_lt gap 86400000 then 3600000 else 86400000))

abbrev pub unit_text : ℕ → List ℕ
unit_text gap = if nat_lt gap 60000 then codes " s" else (if nat_lt gap 3600000 then codes " min" else (if nat_lt gap 86400000 then codes " h" else codes " d"))
