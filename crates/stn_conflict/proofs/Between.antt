use Rattle.std.{proofs.{Common.{List, [], ◌∷◌, ◌++◌, arith}, lemmas.{Int.{ints, clamps, by_lt_z}, List.Elements.All-push}}, specs.{Prelude.{ℤ, pos, ◌+ℤ◌, ◌-ℤ◌, ◌≤ℤ◌, ◌<ℤ◌}, Int.int_max}}
use Rattle.stn_net.{specs.{Difference.Difference, Schedule.{Meets, HasSchedule}, Matrix.Tightest.IsTightest}, proofs.Ranges.range_of_ends}

-- where neither side of a bound is refused, some schedule meets it too
fits_between : {bounds : List Difference} {bound : Difference} {m n : ℤ} → bound.lo ≤ℤ bound.hi → IsTightest bounds bound.from bound.to m → IsTightest bounds bound.to bound.from n → pos 0 ≤ℤ (n +ℤ bound.hi) → pos 0 ≤ℤ (m -ℤ bound.lo) → HasSchedule (bounds ++ bound ∷ [])
fits_between {bounds} {bound} {m} {n} ordered far back upper lower =
    let (s, s_is, s_at) = far.attained in
    let least : (pos 0 -ℤ n) ≤ℤ m = omega (arith, ints, back.bound s s_is) in
    let (time, is, at) = (range_of_ends bounds bound.from bound.to n m back far (int_max bound.lo (pos 0 -ℤ n))).1 (omega (arith, ints, clamps), omega (arith, ints, clamps)) in (
      time,
      record {
        origin = is.origin;
        met = All-push (Meets time) bounds bound is.met (omega (arith, ints, clamps), omega (arith, ints, clamps));
      },
    )

-- a bound that can't be added, and not for its upper side, is refused by its lower side
pub refused_lower : {bounds : List Difference} {bound : Difference} {m n : ℤ} → bound.lo ≤ℤ bound.hi → ¬ HasSchedule (bounds ++ bound ∷ []) → IsTightest bounds bound.from bound.to m → IsTightest bounds bound.to bound.from n → pos 0 ≤ℤ (n +ℤ bound.hi) → (m -ℤ bound.lo) <ℤ pos 0
refused_lower {bounds} {bound} {m} {n} ordered refused far back not_upper =
    by_lt_z (m -ℤ bound.lo) (pos 0) (λ h. h) (λ h. absurd (refused (fits_between ordered far back not_upper h)))
