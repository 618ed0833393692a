-- Bounds on ends of durations, moved to their starts.
use Rattle.std.specs.Prelude.{◌+ℤ◌, ◌-ℤ◌, neg_ℤ, List, [], ◌∷◌, flat_map}
use Rattle.stn_time.specs.Time.{horizon}
use Rattle.stn_net.specs.Difference.{Difference}
use Rattle.stn_loosen.specs.Promise.{setting_of}

-- the upper side of a bound, for the longest duration that its second event ends and the shortest that its first event ends; the lower
-- side is open
abbrev pub moved_upper : List Difference → Difference → Difference
moved_upper durations bound =
    let from = setting_of durations bound.from in
    let to = setting_of durations bound.to in
    record { from = from.from; to = to.from; lo = neg_ℤ horizon; hi = (bound.hi -ℤ to.hi) +ℤ from.lo }

-- its lower side, for the shortest duration that its second event ends and the longest that its first event ends
abbrev pub moved_lower : List Difference → Difference → Difference
moved_lower durations bound =
    let from = setting_of durations bound.from in
    let to = setting_of durations bound.to in
    record { from = from.from; to = to.from; lo = (bound.lo -ℤ to.lo) +ℤ from.hi; hi = horizon }

-- both sides of each bound, the upper first
abbrev pub moved_bounds : List Difference → List Difference → List Difference
moved_bounds durations bounds = flat_map (λ bound. moved_upper durations bound ∷ moved_lower durations bound ∷ []) bounds
