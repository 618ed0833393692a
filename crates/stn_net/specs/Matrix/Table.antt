use Rattle.std.specs.Prelude.{ℕ, ℤ, pos, ◌+◌, ◌*◌, List, slice_index_or}

-- a square of differences: one row for the origin and each of so many other events, row after row
pub record Square : Type 0 where
  pub events : ℕ
  pub entries : List ℤ

-- the entry at a place of a list of entries
abbrev pub entry_in : List ℤ → ℕ → ℤ
entry_in entries place = slice_index_or entries place (pos 0)

-- the entry in the row of x and the column of y
abbrev pub entry : Square → ℕ → ℕ → ℤ
entry square x y = entry_in square.entries (x * (square.events + 1) + y)

-- such a square, and how many bounds it took; a copy adds one and the count of what was copied
pub record Table : Type 0 where
  pub events : ℕ
  pub entries : List ℤ
  pub steps : ℕ

abbrev pub square_of : Table → Square
square_of table = record { events = table.events; entries = table.entries }

abbrev pub far_of : Table → ℕ → ℕ → ℤ
far_of table = entry (square_of table)
