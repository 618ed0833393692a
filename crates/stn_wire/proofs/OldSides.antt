-- The records of old frames, as they are written and as they are read.
use Rattle.std.{proofs.Common.{rules, ◌≡◌, ◌⊎◌, ℤ, ◌≤ℤ◌, arith}, specs.Prelude.neg_ℤ}
use Rattle.stn_records.specs.declared.record.{Mark.Mark, Record.Record}
use Rattle.stn_wire.specs.{declared.layout.Layout.TheVariants.Old, Apart.gap_within, Spelling.{old_horizon, side_bytes, IsLow, IsHigh, IsRecord, record_bytes}, OldSides.{IsWritten, written_side, written_bytes, low_read, high_read, as_read}}

-- the side lies within the old horizon
pub record IsWithin (side : ℤ) : Type 0 where
  pub least : neg_ℤ old_horizon ≤ℤ side
  pub greatest : side ≤ℤ old_horizon

kept : (side : ℤ) → IsWithin side → side_bytes Old side ≡ written_side side
kept side within = cc (gap_within Old side within.greatest)

-- what is written is read
pub record_read : (written : Record) → IsWritten written → IsRecord Old (as_read written) × (record_bytes Old (as_read written) ≡ written_bytes written)
record_read written is = search rules

-- a side that was read was written: as an end, or as it is
record IsSideWritten (reading : ℤ → ℤ) (end read written : ℤ) : Type 0 where
  pub within : IsWithin written
  pub kept : (written ≡ end) ⊎ (written ≡ read)
  pub is : read ≡ reading written

end_within : IsWithin old_horizon
end_within = omega arith

least_within : IsWithin (neg_ℤ old_horizon)
least_within = omega arith

low_written : (mark : Mark) (read : ℤ) → IsLow Old mark read → (written : ℤ) × IsSideWritten (low_read mark) (neg_ℤ old_horizon) read written
low_written mark read is = search (rules, least_within)

high_written : (mark : Mark) (read : ℤ) → IsHigh Old mark read → (written : ℤ) × IsSideWritten (high_read mark) old_horizon read written
high_written mark read is = search (rules, end_within)

ordered : (lo hi low high : ℤ) → lo ≤ℤ hi → IsWithin low → IsWithin high → (low ≡ neg_ℤ old_horizon) ⊎ (low ≡ lo) → (high ≡ old_horizon) ⊎ (high ≡ hi) → low ≤ℤ high
ordered lo hi low high h a b p q = search rules

-- and nothing else is
pub record_written : (r : Record) → IsRecord Old r → (written : Record) × IsWritten written × (r ≡ as_read written)
record_written r is =
    let low = low_written r.mark r.bound.lo is.lo in
    let high = high_written r.mark r.bound.hi is.hi in (
      record r { bound = record r.bound { lo = low.0; hi = high.0 } },
      search rules,
      λ i. record r { bound = record r.bound { lo = low.1.is i; hi = high.1.is i } },
    )
