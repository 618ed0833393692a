-- What the run of a script does, step by step.
use Rattle.std.specs.{Prelude.{◌≡◌, ◌⊎◌, ℕ, ◌+◌, ◌-◌, ◌^◌, ◌<◌, ◌≤◌, min, List, length, IfSome, Ok, Err}, Io.KnownBytes.{Consumes, IsAtEnd}}
use Rattle.stn_device.specs.Bytes.{most_bytes, ConsumesAtMost}
use Rattle.stn_effects.specs.{Effects.{Effect, Then}, Printing.Device}
use Rattle.stn_refusal.specs.declared.failure.{Failure.{Failure, TheVariants.Failed}, Fault.TheVariants.{Read, Write, Bound, Memory}}
use Rattle.stn_exec.specs.{Output.{CountsRefusals, WritesOutput, WritesOutputPart}, Script.{Outcome, script_outcome}, declared.script.Ran.Ran}

-- what is left to read, and what was written
pub record Streams : Type 0 where
  pub unread : Device
  pub out : Device

abbrev pub streams : Device → Device → Streams
streams unread out = record { unread = unread; out = out }

-- an effect on the input alone
abbrev pub OnInput : {X : Type 0} → Effect Device X → Effect Streams X
OnInput Does old new ended = Does old.unread new.unread ended × (new.out ≡ old.out)

-- on the output alone
abbrev pub OnOutput : {X : Type 0} → Effect Device X → Effect Streams X
OnOutput Does old new ended = Does old.out new.out ended × (new.unread ≡ old.unread)

-- why an input was not read to its end: a read failed, it is too long, or memory ran out
abbrev pub IsUnread : Device → Device → Failure → Type 0
IsUnread old new failure =
    ((failure ≡ Failed Read) × (new.failures ≡ min (old.failures + 1) (2 ^ 64 - 1)))
    ⊎ ((failure ≡ Failed Bound) × IfSome old.bytes (λ script. most_bytes < length script) × (new.failures ≡ old.failures))
    ⊎ ((failure ≡ Failed Memory) × (new.failures ≡ old.failures))

-- a script is read, to the end of the input
abbrev pub ReadsScript : Effect Device (List ℕ)
ReadsScript old new (Ok script) = Consumes old.bytes new.bytes script × IsAtEnd new.bytes × (length script ≤ most_bytes) × (new.failures ≡ old.failures)
ReadsScript old new (Err failure) = ConsumesAtMost old.bytes new.bytes (most_bytes + 1) × IsUnread old new failure

-- why not all of an output was written: a write failed, or memory ran out
abbrev pub IsCutOff : Device → Device → Failure → Type 0
IsCutOff old new failure =
    ((failure ≡ Failed Write) × (new.failures ≡ min (old.failures + 1) (2 ^ 64 - 1)))
    ⊎ ((failure ≡ Failed Memory) × (new.failures ≡ old.failures))

-- what lines reply is written; the value counts them, and the refusals. Or a front part of it is
abbrev pub PrintsReplies : Outcome → Effect Device Ran
PrintsReplies outcome old new (Ok ran) = WritesOutput old.bytes new.bytes outcome.replies × (ran.commands ≡ outcome.commands)
    × CountsRefusals outcome.replies ran.refused × (new.failures ≡ old.failures)
PrintsReplies outcome old new (Err failure) = WritesOutputPart old.bytes new.bytes outcome.replies × IsCutOff old new failure

-- a script is read, and then run
abbrev pub RunsScript : Effect Streams Ran
RunsScript =
    Then (OnInput ReadsScript) (λ script.
    OnOutput (PrintsReplies (script_outcome script)))
