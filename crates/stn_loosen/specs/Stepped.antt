-- For proofs alone: no public clause cites these words.
use Rattle.std.specs.Prelude.{◌≡◌, ◌⊎◌, ℕ, ◌+◌, ◌*◌, pos, neg_ℤ, ◌≤ℤ◌, ◌<◌, List, length, slice_index_or}
use Rattle.stn_time.specs.Time.{horizon, IsWithinHorizon}
use Rattle.stn_net.specs.{Difference.{Difference, IsBoundWithin}, Schedule.HasSchedule}
use Rattle.stn_refusal.specs.declared.{code.Code.TheVariants.NotRobust, failure.Failure.Failure}
use Rattle.stn_loosen.specs.{declared.span.Span.Span, Faults.IsRefusedFor, Making.{Loosening, made_bounds, with_more}}

-- the durations of steps one after the other
pub record AreSteps (durations : List Difference) : Type 0 where
  pub each : (place : ℕ) (d : Difference) → place < length durations
      → ((slice_index_or durations place d).from ≡ 2 * place + 1) × ((slice_index_or durations place d).to ≡ 2 * place + 2)

-- a span as a bound
abbrev pub as_bound : Span → Difference
as_bound span = record { from = span.from; to = span.to; lo = span.lo; hi = span.hi }

-- one side of it is open
abbrev pub IsHalfOpen : Difference → Type 0
IsHalfOpen bound = (bound.lo ≡ neg_ℤ horizon) ⊎ (bound.hi ≡ horizon)

-- its sides lie within four times the horizon
pub record IsWithinReach (bound : Difference) : Type 0 where
  pub lo_least : neg_ℤ (pos 126144000000) ≤ℤ bound.lo
  pub lo_most : bound.lo ≤ℤ pos 126144000000
  pub hi_least : neg_ℤ (pos 126144000000) ≤ℤ bound.hi
  pub hi_most : bound.hi ≤ℤ pos 126144000000

-- it is a bound of a plan with so many events
pub record IsBoundOf (events : ℕ) (bound : Difference) : Type 0 where
  pub sound : IsBoundWithin events bound
  pub lo : IsWithinHorizon bound.lo
  pub hi : IsWithinHorizon bound.hi

-- why the sides can't be made: with them there is no schedule
abbrev pub IsCauseBehind : Loosening → List Difference → Failure → Type 0
IsCauseBehind old sides = IsRefusedFor NotRobust (¬ HasSchedule (made_bounds (with_more old sides)))

-- why no more is asked of these bounds
abbrev pub IsCauseIn : List Difference → Failure → Type 0
IsCauseIn bounds = IsRefusedFor NotRobust (¬ HasSchedule bounds)
