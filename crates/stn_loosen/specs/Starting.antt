-- For proofs alone: no public clause cites these words.
use Rattle.std.specs.Prelude.{◌≡◌, ℕ, ℤ, pos, ◌<◌, ◌≤ℤ◌, ◌<ℤ◌, List, [], ◌∷◌, ◌++◌, length, take, All, slice_index}
use Rattle.stn_net.specs.{Difference.{Difference, NamesEvents}, Horizon.horizon_bounds, Schedule.{Meets, IsSchedule}}
use Rattle.stn_conflict.specs.{declared.links.{Link.Link, Side.TheVariants.{Upper, Lower}}, Arcs.{arc, bound_at}}
use Rattle.stn_loosen.specs.Stepped.{IsWithinReach, IsHalfOpen}

-- a bound of a plan with so many events, one side of which is open
pub record IsStart (events : ℕ) (bound : Difference) : Type 0 where
  pub named : NamesEvents events bound
  pub half : IsHalfOpen bound
  pub reach : IsWithinReach bound

-- the links of the bound at a place that contradict each other, if any do: one, if an event would come before or after itself; or both
abbrev pub AreCrossed : Difference → ℕ → List Link → Type 0
AreCrossed bound place [] = (bound.lo ≤ℤ bound.hi) × (bound.from ≡ bound.to → (bound.lo ≤ℤ pos 0) × (pos 0 ≤ℤ bound.hi))
AreCrossed bound place (link ∷ []) = (link.place ≡ place) × (bound.from ≡ bound.to) × ((arc bound link.side).weight <ℤ pos 0)
AreCrossed bound place (link ∷ other ∷ []) =
    (link ≡ record { place = place; side = Upper }) × (other ≡ record { place = place; side = Lower }) × (bound.hi <ℤ bound.lo)
AreCrossed bound place more = ⊥

-- each bound of a list is the one at its place in another
abbrev pub ArePlaced : List Difference → List Difference → List ℕ → Type 0
ArePlaced all bounds places = (k : ℕ) → k < length bounds → (slice_index places k < length all) × (bound_at all (slice_index places k) ≡ bound_at bounds k)

-- bounds, and their places among all: with the horizon's they let the first of all, so many, hold
pub record AreChosen (events : ℕ) (all : List Difference) (count : ℕ) (chosen : List Difference) (places : List ℕ) : Type 0 where
  pub named : All (NamesEvents events) chosen
  pub counted : length places ≡ length (horizon_bounds events ++ chosen)
  pub placed : ArePlaced all (horizon_bounds events ++ chosen) places
  pub met : (time : ℕ → ℤ) → IsSchedule (horizon_bounds events ++ chosen) time → All (Meets time) (take count all)

-- a link at the place that its own place stands for
abbrev pub link_moved : List ℕ → Link → Link
link_moved places link = record link { place = slice_index places link.place }
