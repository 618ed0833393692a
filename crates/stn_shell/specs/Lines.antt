-- What is read of an input for one line.
use Rattle.std.specs.{Prelude.{◌≡◌, ◌≢◌, ◌⊎◌, ℕ, ◌+◌, ◌-◌, ◌^◌, min, List, [], ◌∷◌, ◌++◌, length, Option, Some, None, Ok, Err}, List.AllByRecursion, Io.KnownBytes.{Consumes, IsAtEnd}}
use Rattle.stn_text.specs.Bytes.{line_feed}
use Rattle.stn_effects.specs.{Effects.Effect, Printing.Device}
use Rattle.stn_refusal.specs.declared.failure.{Failure.TheVariants.Failed, Fault.TheVariants.{Read, Bound, Memory}}

-- none of the bytes ends a line
abbrev pub AreWithinLine : List ℕ → Type 0
AreWithinLine = AllByRecursion (λ byte. byte ≢ line_feed)

-- the bytes of a line: up to its LF, or to the end of the input, which comes after at least one byte
abbrev pub AreOfLine : List ℕ → Option (List ℕ) → List ℕ → Type 0
AreOfLine line after bytes = AreWithinLine line
    × ((bytes ≡ line ++ line_feed ∷ []) ⊎ ((bytes ≡ line) × (line ≢ []) × IsAtEnd after))

-- these bytes were read, of which no read failed, and so many may still be
abbrev pub Takes : ℕ → ℕ → Device → Device → List ℕ → Type 0
Takes room left unread rest bytes = Consumes unread.bytes rest.bytes bytes × (left + length bytes ≡ room) × (rest.failures ≡ unread.failures)

-- the next line is read, and nothing after it; there is none at the end. Or a part of a line was read, and then a read failed, one byte more
-- came than may be read, or memory ran out
abbrev pub TakesLine : ℕ → ℕ → Effect Device (Option (List ℕ))
TakesLine room left unread rest (Ok (Some line)) = (bytes : List ℕ) × AreOfLine line rest.bytes bytes × Takes room left unread rest bytes
TakesLine room left unread rest (Ok None) = IsAtEnd rest.bytes × Takes room left unread rest []
TakesLine room left unread rest (Err (Failed Read)) = (part : List ℕ) × AreWithinLine part × Consumes unread.bytes rest.bytes part
    × (left + length part ≡ room) × (rest.failures ≡ min (unread.failures + 1) (2 ^ 64 - 1))
TakesLine room left unread rest (Err (Failed Bound)) = (part : List ℕ) × (byte : ℕ) × AreWithinLine part × (length part ≡ room)
    × Takes (room + 1) left unread rest (part ++ byte ∷ [])
TakesLine room left unread rest (Err (Failed Memory)) = (part : List ℕ) × AreWithinLine part × Takes room left unread rest part
TakesLine room left unread rest (Err other) = ⊥
