use Rattle.std.{proofs.{Common.{◌≡◌, inl, inr, ℕ, ◌<◌, List, length, take, refl, arith}, lemmas.{Int.ints, Bool.cases_lt, List.take_all}}, specs.Prelude.{ℤ, pos}}
use Rattle.stn_net.{specs.{Difference.Difference, Horizon.horizon_bounds, Schedule.{Meets, HasSchedule}}, proofs.Widest.horizon_each}
pub use Rattle.stn_net.proofs.Horizons.{known_within, known_first}

-- the horizon bounds have a schedule: all events at once
bare_schedule : (events : ℕ) → HasSchedule (horizon_bounds events)
bare_schedule events =
    let time : ℕ → ℤ = λ x. pos 0 in
    (time, record { origin = refl; met = horizon_each (Meets time) events (λ event apart within. (omega (arith, ints), omega (arith, ints))) })

-- bounds that begin with the horizon bounds and have no schedule are more than these, which have one
pub more_than_known : {events : ℕ} {bounds : List Difference} → take events bounds ≡ horizon_bounds events → ¬ HasSchedule bounds
    → (events < length bounds) × HasSchedule (take events bounds) × ¬ HasSchedule (take (length bounds) bounds)
more_than_known {events} {bounds} begins none =
    let first : HasSchedule (take events bounds) = rw begins (bare_schedule events) in (
      elim (cases_lt events (length bounds)) [
        | inl more ↦ more
        | inr all ↦ absurd (none (rw (take_all events bounds all) at first))
      ],
      first,
      λ has. none (rw (take_all (length bounds) bounds (omega arith)) at has),
    )
