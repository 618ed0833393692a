-- What a run leaves.
use Rattle.std.{proofs.Common.{rules, ◌≡◌, ◌⊎◌, ◌+◌, ℕ, List, Option, Result, Ok, Err, IfSome}, specs.Io.KnownBytes.{Consumes, IsAtEnd}}
use Rattle.stn_device.{specs.Bytes.{most_bytes, ConsumesAtMost}}
use Rattle.stn_refusal.specs.declared.failure.Failure.{Failure}
use Rattle.stn_exec.specs.{declared.script.Ran.Ran, Output.WritesOutputPart, Runs.{Streams, OnInput, OnOutput, ReadsScript, PrintsReplies, RunsScript}, Script.script_outcome}

-- the script is the whole input
whole : (input rest : Option (List ℕ)) (script : List ℕ) → Consumes input rest script → IsAtEnd rest → IfSome input (λ bytes. bytes ≡ script)
whole input rest script consumed ended = search rules

same_err : (failure other : Failure) → (let none : Result Ran Failure = Err failure in none) ≡ Err other → other ≡ failure
same_err failure other is = cc

-- a script was read, and then run
module _ (old between new : Streams) (script : List ℕ) (read : OnInput ReadsScript old between (Ok script)) where
  all_read : new.unread ≡ between.unread → ReadsScript old.unread new.unread (Ok script)
  all_read same = search rules

  all_run : (ended : Result Ran Failure) → OnOutput (PrintsReplies (script_outcome script)) between new ended → PrintsReplies (script_outcome script) old.out new.out ended
  all_run ended run = search rules

pub done : (old new : Streams) (ran : Ran) → RunsScript old new (Ok ran)
    → (script : List ℕ) × ReadsScript old.unread new.unread (Ok script) × PrintsReplies (script_outcome script) old.out new.out (Ok ran)
done old new ran p = search (rules, all_run)

pub ends : (old new : Streams) (failure : Failure) → RunsScript old new (Err failure)
    → (ReadsScript old.unread new.unread (Err failure) × (new.out ≡ old.out))
    ⊎ ((script : List ℕ) × ReadsScript old.unread new.unread (Ok script) × PrintsReplies (script_outcome script) old.out new.out (Err failure))
ends old new failure p = search (rules, all_run)

-- a front part of the output is written
abbrev pub LeavesPart : Streams → Streams → Type 0
LeavesPart old new = IfSome old.unread.bytes (λ script. WritesOutputPart old.out.bytes new.out.bytes (script_outcome script).replies)
    × ((script : List ℕ) × WritesOutputPart old.out.bytes new.out.bytes (script_outcome script).replies)

pub part : (old new : Streams) (failure : Failure) → RunsScript old new (Err failure) → LeavesPart old new
part old new failure run = search rules

pub used : (old new : Streams) (ended : Result Ran Failure) → RunsScript old new ended → ConsumesAtMost old.unread.bytes new.unread.bytes (most_bytes + 1)
used old new ended p = search (rules)
