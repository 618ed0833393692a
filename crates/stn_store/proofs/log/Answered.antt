-- What is answered where no read failed and the log is not too long.
use Rattle.std.{proofs.Common.{rules, ◌≡◌, ℕ, ◌+◌, false, List, Option, Ok, Err, IfSome}, specs.Io.KnownBytes.IsAtEnd}
use Rattle.stn_device.specs.{declared.counted.Counted.Counted, Counted.{counted_device, KeepsCount}, Bytes.{most_bytes, ConsumesAtMost}}
use Rattle.stn_site.specs.Held.{Held}
use Rattle.stn_store.specs.{Log.{log_held, meaning_of, IsDecided, Loading.Loads, Opening.is_cut_off}, declared.log.fault.LoadFault.LoadFault}

module _ {R : Type 0} (remaining : R → Option (List ℕ)) (number : ℕ) (old new : Counted R) where
  -- another fault
  pub uncut : {fault : LoadFault} → is_cut_off fault ≡ false → IfSome (meaning_of (Err fault)) (IsDecided (remaining (counted_device old)) (remaining (counted_device new)))
      → KeepsCount old new → ConsumesAtMost (remaining (counted_device old)) (remaining (counted_device new)) (most_bytes + 1) → Loads remaining number old new (Err fault)
  uncut whole decided kept used = search rules

  -- a copy of a plan
  pub loaded : {held : Held} → IsDecided (remaining (counted_device old)) (remaining (counted_device new)) (Ok (log_held held)) → IsAtEnd (remaining (counted_device new))
      → held.site ≡ number → KeepsCount old new → ConsumesAtMost (remaining (counted_device old)) (remaining (counted_device new)) (most_bytes + 1)
      → Loads remaining number old new (Ok held)
  loaded decided end own kept used = search rules
