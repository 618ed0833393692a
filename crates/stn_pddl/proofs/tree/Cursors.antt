-- Bytes left at a cursor.
use Rattle.std.proofs.Common.{rules, ◌≡◌, ℕ, zero, suc, Result, IfOk, ◌<◌}
use Rattle.stn_pddl.specs.{declared.tree.cursor.Cursor.Cursor, Tree.{Cursors.{IsPast, behind_at, left_at}, Trees.{Rows, behind_row}}}

-- after so many more rows
unfoldable pub further : ℕ → Rows → Rows
further zero rows = rows
further (suc depth) rows = further depth (behind_row rows)

-- what stands after the rest of a row stands after the row
pub behind_rest : {F : Type 0} (result : Result Cursor F) (row rest : Cursor) → behind_at rest ≡ behind_at row → left_at rest < left_at row
    → IfOk result (IsPast rest) → IfOk result (IsPast row)
behind_rest result row rest same shorter passed = search rules
