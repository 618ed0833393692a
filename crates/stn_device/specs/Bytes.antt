use Rattle.std.specs.{Prelude.{◌≡◌, ◌⊎◌, ℕ, ◌≤◌, List, ◌++◌, length, Option}, Io.KnownBytes.{Appends, Consumes, IsAtEnd}}
use Rattle.stn_device.specs.{Counted.{counted_device, CountsFailure}, declared.counted.Counted.Counted}

-- so many bytes of a script, a session, a log or a stream of replies are read at most
abbrev pub most_bytes : ℕ
most_bytes = 16777216

-- of the known bytes at most n were used
abbrev pub ConsumesAtMost : Option (List ℕ) → Option (List ℕ) → ℕ → Type 0
ConsumesAtMost old new n = (bytes : List ℕ) × Consumes old new bytes × (length bytes ≤ n)

-- the known bytes grew by a front part of the text
abbrev pub AppendsPart : Option (List ℕ) → Option (List ℕ) → List ℕ → Type 0
AppendsPart old new text = (front : List ℕ) × (rest : List ℕ) × (text ≡ front ++ rest) × Appends old new front

-- at most n bytes were used, and fewer only where the input ended or a call failed
pub record UsesUpTo {D : Type 0} (remaining : D → Option (List ℕ)) (n : ℕ) (old new : Counted D) : Type 0 where
  pub bytes : List ℕ
  pub used : Consumes (remaining (counted_device old)) (remaining (counted_device new)) bytes
  pub few : length bytes ≤ n
  pub all : (length bytes ≡ n) ⊎ IsAtEnd (remaining (counted_device new)) ⊎ CountsFailure old new
