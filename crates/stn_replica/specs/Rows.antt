-- For proofs alone: no public clause cites these words.
use Rattle.std.specs.{Prelude.{List, Vec}, List.flat_map}
use Rattle.stn_net.specs.Difference.{Difference}

-- the bounds of rows, row after row
abbrev pub in_turn : {A : Type 0} → List (Vec Difference A) → List Difference
in_turn rows = flat_map (λ row. row.items) rows
