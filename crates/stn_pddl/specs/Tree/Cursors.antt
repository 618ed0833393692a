-- What a cursor stands before.
use Rattle.std.specs.Prelude.{◌≡◌, ℕ, false, ◌<◌, ◌≤◌, length}
use Rattle.stn_pddl.specs.{declared.tree.cursor.{Cursor.Cursor, Child.Child}, Tree.Trees.{Trees, Word, Group, End, Rows, behind_row, rows_from}}
use Rattle.stn_pddl.specs.declared.tree.cursor.Child.TheVariants as child

unfoldable pub rows_at : Cursor → Rows
rows_at cursor = rows_from false cursor.line cursor.rest.now

-- the row that goes on at the cursor
abbrev pub row_at : Cursor → Trees
row_at cursor = (rows_at cursor).row

-- what is still to come after that row
abbrev pub behind_at : Cursor → Rows
behind_at cursor = behind_row (rows_at cursor)

-- how many bytes are left
unfoldable pub left_at : Cursor → ℕ
left_at cursor = length cursor.rest.now

-- the cursor stands after the row that goes on at the first
abbrev pub IsPast : Cursor → Cursor → Type 0
IsPast row rest = (rows_at rest ≡ behind_at row) × (left_at rest ≤ left_at row)

-- The child is the first tree of the row, and its cursor stands where the child says; at the end of the row, after the row.
abbrev pub IsFirst : Child → Rows → Type 0
IsFirst (child.End cursor) rows = (rows.row ≡ End) × (rows_at cursor ≡ behind_row rows)
IsFirst (child.Word line word rest) rows = (rows.row ≡ Word line word.now (row_at rest)) × (behind_at rest ≡ behind_row rows)
IsFirst (child.Group line inside) rows =
    (rows.row ≡ Group line (row_at inside) (behind_at inside).row) × (behind_row (behind_at inside) ≡ behind_row rows)

-- fewer bytes are left after a tree, and no more after the end of a row
abbrev pub IsShorter : Child → ℕ → Type 0
IsShorter (child.End cursor) left = left_at cursor ≤ left
IsShorter (child.Word line word rest) left = left_at rest < left
IsShorter (child.Group line inside) left = left_at inside < left
