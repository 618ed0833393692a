-- A reader whose bytes are cut into frames.
pub mod Held
pub mod Pieces
pub mod Failures
use Rattle.std.specs.{Prelude.{◌≡◌, ℕ, ◌+◌, ◌<◌, ◌≤◌, List, [], ◌∷◌, ◌++◌, length, Option, None, Result, Ok, Err, ⊤}, Io.KnownBytes.Consumes}
use Rattle.stn_refusal.specs.Codes.{number_of}
use Rattle.stn_refusal.specs.declared.code.Code.TheVariants as code
use Rattle.stn_device.specs.{Bytes.most_bytes, declared.whole.ReadFault.{ReadFault, TheVariants.{Read, Bound, Memory}}}
use Rattle.stn_wire.specs.{Frame.{content, spelling, IsFrame}, Front.{IsFront, faulty, unfinished}, declared.{fault.WireFault.WireFault, stream.{fault.FrameFault.{FrameFault, TheVariants.{Length, Kind, Body}}, reader.Next.{Next, TheVariants.{Frame as frame, Faulty, Closed, Cut}}}}, Stream.Held.Stream}
use Rattle.stn_wire.specs.declared.fault.WireFault.TheVariants as wire

-- the fault of a stream of frames, as that of bytes
abbrev pub wire_fault : FrameFault → WireFault
wire_fault Length = wire.Length
wire_fault Kind = wire.Kind
wire_fault Body = wire.Body

-- its code
abbrev pub frame_code : FrameFault → ℕ
frame_code Length = number_of code.FrameLength
frame_code Kind = number_of code.FrameKind
frame_code Body = number_of code.FrameBody

-- nothing was read
abbrev pub unread : Stream
unread = record { held = []; behind = []; count = 0; broken = None }

-- the bytes that were read and given in no frame
abbrev pub pending : Stream → List ℕ
pending stream = stream.held ++ stream.behind

-- no fault was met
abbrev pub IsReading : Stream → Type 0
IsReading stream = stream.broken ≡ None

-- what stands in front of some bytes: a frame, and the bytes after it are pending; a fault; the end between two frames, or
-- within one. Read and Bound come where no frame was left, Bound with a byte beyond the limit
abbrev pub IsNextFrame : {A : Type 0} → List ℕ → Stream → Result (Next A) ReadFault → Type 0
IsNextFrame bytes new (Ok (frame given)) = IsFrame (content given) × (bytes ≡ spelling (content given) ++ pending new) × IsReading new
IsNextFrame bytes new (Ok (Faulty fault)) = IsFront bytes (faulty (wire_fault fault))
IsNextFrame bytes new (Ok Closed) = bytes ≡ []
IsNextFrame bytes new (Ok Cut) = IsFront bytes unfinished × (0 < length bytes)
IsNextFrame bytes new (Err Read) = IsFront bytes unfinished
IsNextFrame bytes new (Err Bound) = (left : List ℕ) × (byte : ℕ) × (bytes ≡ left ++ byte ∷ []) × IsFront left unfinished
IsNextFrame bytes new (Err Memory) = ⊤

-- how many bytes were read where this is the answer: Bound comes with the first byte beyond the limit
abbrev pub IsCounted : {A : Type 0} → ℕ → Stream → Result (Next A) ReadFault → Type 0
IsCounted count new (Ok next) = (new.count ≡ count) × (count ≤ most_bytes)
IsCounted count new (Err Bound) = count ≡ most_bytes + 1
IsCounted count new (Err other) = count ≤ most_bytes

-- the bytes that were read for an answer, after those that were pending
pub record GivesNext {A : Type 0} (old new : Stream) (before after : Option (List ℕ)) (answer : Result (Next A) ReadFault) : Type 0 where
  pub bytes : List ℕ
  pub consumed : Consumes before after bytes
  pub next : IsNextFrame (pending old ++ bytes) new answer
  pub counted : IsCounted (old.count + length bytes) new answer
