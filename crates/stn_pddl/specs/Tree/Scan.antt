-- The first fault of the bytes of a text, or its one tree.
use Rattle.std.specs.Prelude.{◌≡◌, ℕ, ◌+◌, ◌-◌, Bool, false, List, [], ◌∷◌, length, Result, Ok, Err, nat_lt, if◌then◌else◌}
pub use Rattle.stn_text.specs.Bytes.{most_text}
use Rattle.stn_text.specs.Faults.{◌>>=◌}
use Rattle.stn_pddl.specs.{declared.tree.{bytes.Kind.{Kind, TheVariants.{Blank, Open, Close, Letter, Stray}}, scan.{TreeFault.{TreeFault, TheVariants.{TooLong, Syntax, TooDeep}}, Place.{Place, TheVariants.{Before, Inside, After}}}}, Tree.{Bytes.{kind_in, comment_after, line_after}, Trees.{Trees, End, Group, rows_from}}}

-- a text has at most so many open brackets
abbrev pub most_depth : ℕ
most_depth = 32

-- A list opens before the tree or inside it, and only so deep.
abbrev pub place_after_open : ℕ → Place → Result Place TreeFault
place_after_open line Before = Ok (Inside 1)
place_after_open line (Inside depth) = if nat_lt depth most_depth then Ok (Inside (depth + 1)) else Err (TooDeep line)
place_after_open line After = Err (Syntax line)

-- A list closes where one is open.
abbrev pub place_after_close : ℕ → Place → Result Place TreeFault
place_after_close line Before = Err (Syntax line)
place_after_close line (Inside depth) = if nat_lt 1 depth then Ok (Inside (depth - 1)) else Ok After
place_after_close line After = Err (Syntax line)

-- A word stands where a list is open.
abbrev pub place_after_letter : ℕ → Place → Result Place TreeFault
place_after_letter line Before = Err (Syntax line)
place_after_letter line (Inside depth) = Ok (Inside depth)
place_after_letter line After = Err (Syntax line)

unfoldable pub place_after : Kind → ℕ → Place → Result Place TreeFault
place_after Blank line place = Ok place
place_after Open line place = place_after_open line place
place_after Close line place = place_after_close line place
place_after Letter line place = place_after_letter line place
place_after Stray line place = Err (Syntax line)

-- The text ends after its tree.
abbrev pub ends_at : ℕ → Place → Result Place TreeFault
ends_at line Before = Err (Syntax line)
ends_at line (Inside depth) = Err (Syntax line)
ends_at line After = Ok After

-- Byte by byte, up to the first fault.
unfoldable pub scanned : Bool → ℕ → Place → List ℕ → Result Place TreeFault
scanned comment line place [] = ends_at line place
scanned comment line place (b ∷ bytes) =
    place_after (kind_in comment b) line place >>= λ next. scanned (comment_after comment b) (line_after line b) next bytes

-- The tree of a text, as a row of one list, or the first fault of its bytes.
unfoldable pub tree_of : List ℕ → Result Trees TreeFault
tree_of text =
    if nat_lt most_text (length text) then Err TooLong
    else (scanned false 1 Before text >>= λ end. Ok (rows_from false 1 text).row)

-- one list, and nothing after it
abbrev pub IsOneList : Trees → Type 0
IsOneList row = (line : ℕ) × (children : Trees) × (row ≡ Group line children End)
