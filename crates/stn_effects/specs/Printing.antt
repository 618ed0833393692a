-- What is printed, on the output and on the standard error.
use Rattle.std.specs.{Prelude.{◌≡◌, ◌⊎◌, ℕ, ◌+◌, ◌-◌, ◌^◌, min, List, Option, Ok, Err}, Io.KnownBytes.Appends}
use Rattle.stn_device.specs.{Bytes.AppendsPart, Counted.{counted_device, failure_count}, declared.counted.Counted.Counted}
use Rattle.stn_effects.specs.Effects.{Effect}
use Rattle.stn_refusal.specs.{Printed.{refusal_text, fault_text}, declared.{failure.{Failure.{Failure, TheVariants.{Refused, Failed}}, Fault.{Fault, TheVariants.{Write, Memory}}}, refusal.Refusal.Refusal}}

-- a reader or a writer: the bytes that it has left or holds, where these are known, and how many of its calls failed
pub record Device : Type 0 where
  pub bytes : Option (List ℕ)
  pub failures : ℕ

abbrev pub device_of : {D : Type 0} → (D → Option (List ℕ)) → Counted D → Device
device_of bytes counted = record { bytes = bytes (counted_device counted); failures = failure_count counted }

-- all of a text was written, and no call failed
abbrev pub Prints : Device → Device → List ℕ → Type 0
Prints old new text = Appends old.bytes new.bytes text × (new.failures ≡ old.failures)

-- a call failed, and a front part of the text was written
abbrev pub BreaksOff : Device → Device → List ℕ → Type 0
BreaksOff old new text = AppendsPart old.bytes new.bytes text × (new.failures ≡ min (old.failures + 1) (2 ^ 64 - 1))

-- a text could not be printed: there was no memory for it, or a write failed
abbrev pub IsUnprinted : Device → Device → List ℕ → Failure → Type 0
IsUnprinted old new text failure =
    ((failure ≡ Failed Memory) × (new ≡ old)) ⊎ ((failure ≡ Failed Write) × BreaksOff old new text)

-- a text was printed on the standard error, as far as that could be written
abbrev pub TellsText : List ℕ → Device → Device → Type 0
TellsText text old new = Prints old new text ⊎ BreaksOff old new text

-- the same of the line of a fault
abbrev pub TellsFault : Fault → Device → Device → Type 0
TellsFault fault old new = TellsText (fault_text fault) old new

-- the line of a refusal was printed on the output, and nothing on the standard error; what kept it from being printed was told there
abbrev pub TellsRefusal : Refusal → Device → Device → Device → Device → Type 0
TellsRefusal refusal out printed err told =
    (Prints out printed (refusal_text refusal) × (told ≡ err))
    ⊎ ((printed ≡ out) × TellsFault Memory err told)
    ⊎ (BreaksOff out printed (refusal_text refusal) × TellsFault Write err told)

-- why there is no answer was told: a refusal on the output, a fault on the standard error, and nothing else on either
abbrev pub Tells : Failure → Device → Device → Device → Device → Type 0
Tells (Failed fault) out printed err told = (printed ≡ out) × TellsFault fault err told
Tells (Refused refusal) out printed err told = TellsRefusal refusal out printed err told

-- a text is printed
abbrev pub Writes : List ℕ → Effect Device (Unit {0})
Writes text old new (Ok done) = Prints old new text
Writes text old new (Err failure) = IsUnprinted old new text failure
