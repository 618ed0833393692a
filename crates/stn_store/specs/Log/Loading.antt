-- What a load reads, and what it answers.
use Rattle.std.specs.{Prelude.{◌≡◌, ◌≢◌, ℕ, ◌+◌, ◌<◌, List, length, Option, Result, Err, IfOk, IfSome, OnOk, IsErrOf}, Io.KnownBytes.IsAtEnd}
use Rattle.stn_device.specs.{declared.counted.Counted.Counted, Counted.{counted_device, failure_count, KeepsCount}, Bytes.{most_bytes, ConsumesAtMost}}
use Rattle.stn_site.specs.Held.{Held}
use Rattle.stn_store.specs.{Log.{meaning_of, IsDecided, IsOpen}, declared.log.fault.LoadFault.{LoadFault, TheVariants.{Read, Bound}}}

-- a site's copy of a plan is loaded from a counted reader. The answer is what the bytes say, and a log is read to its end. A read that
-- fails comes after frames that are all taken. A log is too long if it has more bytes than one may have. Only a failed read is counted
pub record Loads {R : Type 0} (remaining : R → Option (List ℕ)) (number : ℕ) (old new : Counted R) (answer : Result Held LoadFault) : Type 0 where
  pub meaning : IfSome (meaning_of answer) (IsDecided (remaining (counted_device old)) (remaining (counted_device new)))
  pub end : OnOk answer (IsAtEnd (remaining (counted_device new)))
  pub site : IfOk answer (λ held. held.site ≡ number)
  pub «open» : IsErrOf answer Read → IsOpen (remaining (counted_device old)) (remaining (counted_device new))
  pub read : IsErrOf answer Read → failure_count old < failure_count new
  pub bound : IsErrOf answer Bound → IfSome (remaining (counted_device old)) (λ input. most_bytes < length input)
  pub kept : answer ≢ Err Read → KeepsCount old new
  pub used : ConsumesAtMost (remaining (counted_device old)) (remaining (counted_device new)) (most_bytes + 1)
