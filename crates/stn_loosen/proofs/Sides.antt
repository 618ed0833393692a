-- Sides of moved bounds.
use Rattle.std.proofs.{Common.{rules, ◌≡◌, ◌≢◌, ◌⊎◌, ⊎_elim, ℕ, ℤ, neg_ℤ, ◌+ℤ◌, ◌-ℤ◌, ◌≤ℤ◌, ◌↔◌, Bool, IsTrue, List, [], ◌∷◌, subst, arith, All}, lemmas.{Int.ints, List.Elements.All-head}}
use Rattle.stn_time.specs.Time.{horizon, IsWithinHorizon}
use Rattle.stn_net.{specs.{Difference.{Difference, NamesEvents}, Horizon.horizon_bounds, Schedule.{Meets, IsSchedule}}, proofs.{Closure.schedule_before, Schedules.met_behind, Widest.horizon_times}}
use Rattle.stn_conflict.specs.Distances.{TellsWithin}
use Rattle.stn_loosen.{specs.{Loosened.Imply, Making.{Loosening, made_bounds, with_more}, declared.span.Span.Span, Moved.{moved_upper, moved_lower, moved_bounds}, Promise.setting_of, Stepped.{as_bound, AreSteps, IsHalfOpen, IsBoundOf}}, proofs.{Steps.earlier_start, Settings.{BothSides, moved_all}, Made.bounds_more}}

-- no two events are farther apart than the horizon
pub apart_within : (made : Loosening) (bound : Difference) → NamesEvents made.events bound → (time : ℕ → ℤ) → IsSchedule (made_bounds made) time
    → (neg_ℤ horizon ≤ℤ (time bound.to -ℤ time bound.from)) × ((time bound.to -ℤ time bound.from) ≤ℤ horizon)
apart_within made bound named time s =
    let front = schedule_before (horizon_bounds made.events) made.records time s in
    let from = horizon_times made.events time front bound.from named.from in
    let to = horizon_times made.events time front bound.to named.to in
    (omega (arith, ints, from.1, to.0), omega (arith, ints, from.0, to.1))

-- what is told of the side of a bound that is not open says whether it is implied
module _ (made : Loosening) (bounds : List Difference) (listed : bounds ≡ made_bounds made) (side : Difference) (named : NamesEvents made.events side) (told : Bool) (most : ℤ) where
  pub upper_told : most ≡ side.hi → side.lo ≡ neg_ℤ horizon → TellsWithin bounds side.from side.to most told → IsTrue told ↔ Imply (made_bounds made) side
  upper_told is is_open tells =
      let are : TellsWithin (made_bounds made) side.from side.to most told = search rules in (
        λ tells_it time s. (
          (let low = (apart_within made side named time s).0 in omega (arith, ints)),
          (let high = are.within.0 tells_it time s in omega (arith, ints)),
        ),
        λ implied. are.within.1 (λ time s. (let met = (implied time s).1 in omega (arith, ints))),
      )

  pub lower_told : most ≡ neg_ℤ side.lo → side.hi ≡ horizon → TellsWithin bounds side.to side.from most told → IsTrue told ↔ Imply (made_bounds made) side
  lower_told is is_open tells =
      let are : TellsWithin (made_bounds made) side.to side.from most told = search rules in (
        λ tells_it time s. (
          (let low = are.within.0 tells_it time s in omega (arith, ints)),
          (let high = (apart_within made side named time s).1 in omega (arith, ints)),
        ),
        λ implied. are.within.1 (λ time s. (let met = (implied time s).0 in omega (arith, ints))),
      )

-- a bound with an open side lies within the horizon, or says nothing
pub half_within : (bound : Difference) → IsHalfOpen bound → bound.lo ≤ℤ bound.hi
    → (IsWithinHorizon bound.lo × IsWithinHorizon bound.hi) ⊎ ((bound.lo ≤ℤ neg_ℤ horizon) × (horizon ≤ℤ bound.hi))
half_within bound h ordered = search rules

-- with a side that is open, needed, and no bound there is no schedule
module _ (old : Loosening) (side : Difference) (named : NamesEvents old.events side) (side_open : IsHalfOpen side) (needed : ¬ Imply (made_bounds old) side)
    (time : ℕ → ℤ) (schedule : IsSchedule (made_bounds (with_more old (side ∷ []))) time) where
  here : Meets time side
  here = All-head (Meets time) side [] (met_behind (made_bounds old) (side ∷ []) time (subst (λ l. IsSchedule l time) (bounds_more old (side ∷ [])) schedule))

  differs : side.from ≢ side.to
  differs same = search (rules, ints, here)

  pub side_bound : IsBoundOf old.events side
  side_bound =
      let ordered : side.lo ≤ℤ side.hi = omega (arith, ints, here.0, here.1) in
      ⊎_elim (λ within. record { sound = record { named = named; differs = differs; ordered = ordered }; lo = within.0; hi = within.1 })
      (λ wide. absurd (needed (λ other s. let b = apart_within old side named other s in (omega (arith, ints, b.0, wide.0), omega (arith, ints, b.1, wide.1)))))
      (half_within side side_open ordered)

-- moved sides name events of the plan
module _ (durations : List Difference) (are : AreSteps durations) (events : ℕ) where
  pub both_named : (bound : Difference) → NamesEvents events bound → BothSides durations (NamesEvents events) bound
  both_named bound named = search (rules, earlier_start)

  pub sides_named : (bounds : List Difference) → All (NamesEvents events) bounds → All (NamesEvents events) (moved_bounds durations bounds)
  sides_named bounds named = search (rules, moved_all, both_named)

-- the sides that the code makes
module _ (durations : List Difference) (bound : Difference) (from_event to_event : ℕ) (from to : Span) (time : ℤ) (from_is : from_event ≡ bound.from) (to_is : to_event ≡ bound.to)
    (from_set : as_bound from ≡ setting_of durations from_event) (to_set : as_bound to ≡ setting_of durations to_event) where
  pub is_upper : time ≡ ((bound.hi -ℤ to.hi) +ℤ from.lo) → as_bound (record { from = from.from; to = to.from; lo = neg_ℤ horizon; hi = time }) ≡ moved_upper durations bound
  is_upper is = search rules

  pub is_lower : time ≡ ((bound.lo -ℤ to.lo) +ℤ from.hi) → as_bound (record { from = from.from; to = to.from; lo = time; hi = horizon }) ≡ moved_lower durations bound
  is_lower is = search rules
