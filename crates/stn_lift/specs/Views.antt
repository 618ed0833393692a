-- For proofs alone: no public clause cites these words.
-- What an event of the code needs, adds and deletes.
use Rattle.std.specs.Prelude.{ℕ}
use Rattle.stn_lift.specs.declared.footprint.Footprint as code
use Rattle.stn_lift.specs.Footprints.{Footprint}

-- in numbers
abbrev pub numbers_of : {A : Type 0} → code.Footprint A → Footprint ℕ
numbers_of footprint = record { needs = footprint.needs; adds = footprint.adds; deletes = footprint.deletes }
