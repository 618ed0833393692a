-- What stands at the front of some bytes: a whole frame, a fault, or less than a frame.
use Rattle.std.specs.{Prelude.{◌≡◌, ◌≢◌, ℕ, ◌+◌, ◌<◌, ◌≤◌, ◌⊎◌, List, length, take, drop, slice_index, Option, Some, None, Result, Ok, Err}, Int.{w32, from_be_bytes}}
use Rattle.stn_wire.specs.{Frame.{FrameContent, content, body_of, spelling, IsFrame, most_body}, declared.{fault.WireFault.{WireFault, TheVariants.{Length, Kind, Body, OldFrame, Memory}}, frame.Frame.Frame}}

-- the number that the first four bytes spell
abbrev pub announced : List ℕ → ℕ
announced bytes = from_be_bytes w32 bytes

-- a body has at least its kind
abbrev pub IsLength : ℕ → Type 0
IsLength n = (1 ≤ n) × (n ≤ most_body)

abbrev pub IsKind : ℕ → Type 0
IsKind kind = ((1 ≤ kind) × (kind ≤ 8)) ⊎ (kind ≡ 16)

-- a whole frame and how many bytes it has; a fault; less than a frame
pub data Front : Type 0 where
  whole : FrameContent → ℕ → Front
  faulty : WireFault → Front
  unfinished : Front

-- A whole frame stands in front where its spelling does. Length is the fault where four bytes give no length of a body;
-- Kind where the fifth is no kind; Body where a whole body is that of no frame. The bytes are unfinished where they are
-- fewer than a length, a kind and a body of this length need, and show no fault.
abbrev pub IsFront : List ℕ → Front → Type 0
IsFront bytes (whole frame n) = IsFrame frame × (n ≤ length bytes) × (take n bytes ≡ spelling frame)
IsFront bytes (faulty Length) = (4 ≤ length bytes) × ¬ IsLength (announced bytes)
IsFront bytes (faulty Kind) = (5 ≤ length bytes) × IsLength (announced bytes) × ¬ IsKind (slice_index bytes 4)
IsFront bytes (faulty Body) = (4 + announced bytes ≤ length bytes) × IsLength (announced bytes) × IsKind (slice_index bytes 4)
    × ((frame : FrameContent) → IsFrame frame → take (announced bytes) (drop 4 bytes) ≢ body_of frame)
IsFront bytes (faulty OldFrame) = ⊥
IsFront bytes (faulty Memory) = ⊥
IsFront bytes unfinished = (length bytes < 4) ⊎ (IsLength (announced bytes)
    × ((length bytes ≡ 4) ⊎ (IsKind (slice_index bytes 4) × (length bytes < 4 + announced bytes))))

-- a whole frame stands in front
abbrev pub BeginsFrame : List ℕ → Type 0
BeginsFrame bytes = (frame : FrameContent) × (n : ℕ) × IsFront bytes (whole frame n)

-- the front that an answer names; none if memory runs out
abbrev pub answered_front : {A : Type 0} → Result (Option (Frame A × ℕ)) WireFault → Option Front
answered_front (Ok None) = Some unfinished
answered_front (Ok (Some found)) = Some (whole (content found.0) found.1)
answered_front (Err Memory) = None
answered_front (Err fault) = Some (faulty fault)
