-- For proofs alone: no public clause cites these words.
-- What a reader of frames makes of one piece.
use Rattle.std.specs.{Prelude.{◌≡◌, ℕ, ◌+◌, ◌<◌, ◌≤◌, List, [], ◌∷◌, ◌++◌, length, Bool, true, false, Option, Some, None, Result, Ok, Err, ⊤}, Io.KnownBytes.{Consumes, IsAtEnd}}
use Rattle.stn_device.specs.{Bytes.most_bytes, declared.whole.ReadFault.{ReadFault, TheVariants.{Read, Bound, Memory}}}
use Rattle.stn_wire.specs.{Frame.{content, spelling, IsFrame}, Front.{IsFront, faulty, unfinished}, declared.{fault.WireFault.WireFault, frame.Frame.Frame, stream.{reader.Next.{Next, TheVariants.Faulty}, fault.FrameFault.TheVariants.{Length, Kind, Body}}}, Stream.{pending, Held.Stream}}
use Rattle.stn_wire.specs.declared.fault.WireFault.TheVariants as wire

-- what taking what was read answers: the first frame that it completes, and the bytes after it are pending; or none, and all of it is held
abbrev pub IsPieceFed : {A : Type 0} → Stream → Stream → Result (Option (Frame A)) WireFault → Type 0
IsPieceFed old new (Ok (Some given)) = IsFrame (content given) × (pending old ≡ spelling (content given) ++ pending new)
IsPieceFed old new (Ok None) = IsFront (pending old) unfinished × (pending new ≡ pending old) × (new.behind ≡ [])
IsPieceFed old new (Err wire.Memory) = ⊤
IsPieceFed old new (Err fault) = IsFront (pending old) (faulty fault)

-- what comes next where that is a fault
abbrev pub next_of_fault : {A : Type 0} → WireFault → Result (Next A) ReadFault
next_of_fault wire.Length = Ok (Faulty Length)
next_of_fault wire.Kind = Ok (Faulty Kind)
next_of_fault wire.Body = Ok (Faulty Body)
next_of_fault other = Err Memory

-- what reading one piece more answers: whether there is one, which is pending after what was held; or a fault. Bound shows a
-- byte beyond the limit
abbrev pub IsFilled : Stream → Stream → Option (List ℕ) → Option (List ℕ) → Result Bool ReadFault → Type 0
IsFilled old new before after (Ok true) =
    (bytes : List ℕ) × Consumes before after bytes × (0 < length bytes) × (pending new ≡ pending old ++ bytes) × (new.count ≡ old.count + length bytes)
IsFilled old new before after (Ok false) = Consumes before after [] × IsAtEnd after × (new ≡ old)
IsFilled old new before after (Err Read) = Consumes before after []
IsFilled old new before after (Err Bound) = (byte : ℕ) × Consumes before after (byte ∷ []) × (old.count ≡ most_bytes)
IsFilled old new before after (Err Memory) = (bytes : List ℕ) × Consumes before after bytes × (old.count + length bytes ≤ most_bytes)

-- at the limit: a byte stands beyond it, or a read failed
abbrev pub IsBeyond : Option (List ℕ) → Option (List ℕ) → ReadFault → Type 0
IsBeyond before after Bound = (byte : ℕ) × Consumes before after (byte ∷ [])
IsBeyond before after Read = Consumes before after []
IsBeyond before after Memory = ⊥
