use Rattle.std.specs.Prelude.{◌≡◌, ◌≢◌, ℕ, ℤ, ◌<◌, ◌≤◌, ◌⊎◌, ◌≤ℤ◌, ◌<ℤ◌}
use Rattle.stn_net.specs.declared.bound.BoundFault.{BoundFault, TheVariants.{NoEvent, SameEvent, Crossed}}

-- the time of `to` less the time of `from` lies from `lo` to `hi`, in milliseconds
pub record Difference : Type 0 where
  pub from : ℕ
  pub to : ℕ
  pub lo : ℤ
  pub hi : ℤ

-- both events are the origin or one of so many others
pub record NamesEvents (events : ℕ) (bound : Difference) : Type 0 where
  pub from : bound.from ≤ events
  pub to : bound.to ≤ events

-- the difference is a bound of a plan with so many events beside the origin
pub record IsBoundWithin (events : ℕ) (bound : Difference) : Type 0 where
  pub named : NamesEvents events bound
  pub differs : bound.from ≢ bound.to
  pub ordered : bound.lo ≤ℤ bound.hi

-- the fault is the first that stands against the difference
abbrev pub IsFaultOf : ℕ → Difference → BoundFault → Type 0
IsFaultOf events bound NoEvent = (events < bound.from) ⊎ (events < bound.to)
IsFaultOf events bound SameEvent = NamesEvents events bound × (bound.from ≡ bound.to)
IsFaultOf events bound Crossed = NamesEvents events bound × (bound.from ≢ bound.to) × (bound.hi <ℤ bound.lo)
