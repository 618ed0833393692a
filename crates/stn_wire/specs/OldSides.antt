-- What the sides of a record in an old frame mean: as they are written there, and as they are read.
use Rattle.std.specs.{Prelude.{ℤ, neg_ℤ, ◌≤ℤ◌, int_le, if◌then◌else◌, ℕ, List, ◌∷◌, ◌++◌}, Int.int_gap}
use Rattle.stn_time.specs.Time.{horizon}
use Rattle.stn_net.specs.{Event.most_events, Difference.IsBoundWithin}
use Rattle.stn_records.specs.declared.record.{Mark.{Mark, TheVariants.{Plain, Done}}, Record.Record}
use Rattle.stn_wire.specs.Spelling.{two, four, mark_byte, old_horizon}

-- a record as an old frame has it: of a bound of some plan, both sides within the old horizon
pub record IsWritten (written : Record) : Type 0 where
  pub sound : IsBoundWithin most_events written.bound
  pub least : neg_ℤ old_horizon ≤ℤ written.bound.lo
  pub greatest : written.bound.hi ≤ℤ old_horizon

-- its bytes: each side in four, as how far it lies above the least
abbrev pub written_side : ℤ → List ℕ
written_side side = four (int_gap (neg_ℤ old_horizon) side)

abbrev pub written_bytes : Record → List ℕ
written_bytes written = mark_byte written.mark
    ∷ (two written.bound.from ++ (two written.bound.to ++ (written_side written.bound.lo ++ written_side written.bound.hi)))

-- what a side is read as: in a plain record an end of the old times as that end of all times; every other side as it is
abbrev pub low_read : Mark → ℤ → ℤ
low_read Plain side = if int_le side (neg_ℤ old_horizon) then neg_ℤ horizon else side
low_read Done side = side

abbrev pub high_read : Mark → ℤ → ℤ
high_read Plain side = if int_le old_horizon side then horizon else side
high_read Done side = side

abbrev pub as_read : Record → Record
as_read written = record written {
  bound = record written.bound { lo = low_read written.mark written.bound.lo; hi = high_read written.mark written.bound.hi };
}
