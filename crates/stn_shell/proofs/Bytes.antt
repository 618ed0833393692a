-- What is read of a line, byte after byte.
use Rattle.std.{proofs.{lemmas.Grind.common_steps, Common.{rules, ◌≡◌, ◌≢◌, ℕ, ◌+◌, ◌<◌, List, [], ◌∷◌, ◌++◌, length, take, Option, Some, Ok, Vec, arith}}, specs.{Prelude.{IsNone, IfSome, option_map}, Io.KnownBytes.{Consumes, IsAtEnd}}}
use Rattle.stn_text.specs.Bytes.{line_feed}
use Rattle.stn_effects.specs.Printing.{Device}
use Rattle.stn_shell.specs.Lines.{AreWithinLine, Takes, TakesLine}

-- one byte more
pub within_more : (line : List ℕ) (byte : ℕ) → AreWithinLine line → byte ≢ line_feed → AreWithinLine (line ++ byte ∷ [])
within_more line byte within other = grind (arith, common_steps)

-- a read of one byte at most that gave some
pub one_taken : (byte given : List ℕ) (count : ℕ) → length byte ≡ 1 → given ≡ take count byte → 0 < count → (b : ℕ) × (byte ≡ b ∷ []) × (given ≡ b ∷ [])
one_taken byte given count one is some = grind (arith, common_steps)

-- it is taken too, of the same room or of another
pub taken_more : (a b c : Device) (room left whole next : ℕ) (bytes : List ℕ) (byte : ℕ) → Takes room left a b bytes → Consumes b.bytes c.bytes (byte ∷ [])
    → c.failures ≡ b.failures → next + room + 1 ≡ left + whole → Takes whole next a c (bytes ++ byte ∷ [])
taken_more a b c room left whole next bytes byte taken one passed is = grind (arith, common_steps)

-- at the end of the input stands the line, if it has a byte
pub at_end : {A : Type 0} (a b c : Device) (room left count : ℕ) (given : List ℕ) (line : Vec ℕ A) (last : Option (Vec ℕ A))
    → (IsNone last → line.items ≡ []) → IfSome last (λ one. (one.items ≡ line.items) × (line.items ≢ []))
    → AreWithinLine line.items → Takes room left a b line.items → count ≡ 0 → Consumes b.bytes c.bytes (take count given) → IsAtEnd c.bytes
    → c.failures ≡ b.failures → TakesLine room left a c (Ok (option_map (λ text. text.items) last))
at_end a b c room left count given line last none some within taken nothing more end passed = search rules

pub less_room : (room left : ℕ) (a b : Device) (line : List ℕ) → TakesLine room left a b (Ok (Some line)) → left < room
less_room room left a b line (bytes, of, taken) = grind (arith, common_steps)
