-- Where the first fault of a text lies.
use Rattle.std.specs.Prelude.{◌≡◌, ℕ, ◌≤◌, false, List, ◌∷◌, ◌++◌, length, fold, Err, IsOk}
use Rattle.stn_pddl.specs.{declared.tree.scan.{TreeFault.{TreeFault, TheVariants.{TooLong, Syntax, TooDeep}}, Place.TheVariants.Before}, Tree.{Bytes.line_after, Scan.{most_text, scanned, tree_of}}}

-- some text that begins with these bytes has no fault, however long it is
abbrev pub CanGoOn : List ℕ → Type 0
CanGoOn front = (rest : List ℕ) × IsOk (scanned false 1 Before (front ++ rest))

-- the line on which a text goes on after these bytes
abbrev pub line_behind : List ℕ → ℕ
line_behind front = fold line_after 1 front

-- a fault on this line
abbrev pub IsOnLine : ℕ → TreeFault → Type 0
IsOnLine line TooLong = ⊥
IsOnLine line (Syntax at) = at ≡ line
IsOnLine line (TooDeep at) = at ≡ line

-- the byte after these, which could go on, is a fault, whatever follows it
pub record IsFaultAt (front : List ℕ) (byte : ℕ) (fault : TreeFault) : Type 0 where
  pub before : CanGoOn front
  pub its_line : IsOnLine (line_behind front) fault
  pub always : (rest : List ℕ) → length (front ++ byte ∷ rest) ≤ most_text → tree_of (front ++ byte ∷ rest) ≡ Err fault

-- the first fault of a text that is not too long: at its first byte after which no text can go on, or at an end that comes too early
pub data IsFirstFault (text : List ℕ) (fault : TreeFault) : Type 0 where
  at_byte : (front : List ℕ) (byte : ℕ) (rest : List ℕ) → text ≡ front ++ byte ∷ rest → IsFaultAt front byte fault → IsFirstFault text fault
  at_end : CanGoOn text → fault ≡ Syntax (line_behind text) → IsFirstFault text fault
