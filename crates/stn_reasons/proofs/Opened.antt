-- A refusal to open a log.
use Rattle.std.proofs.Common.{rules, ◌≡◌, ◌⊎◌, List, ℕ}
use Rattle.stn_refusal.specs.declared.{failure.{Failure.{Failure, TheVariants.Refused}, Fault.Fault}, refusal.Refusal.Refusal}
use Rattle.stn_store.specs.{Steps.Entries, Store.{IsUnopened, IsLack}}

-- what refuses to open a log is no lack
pub refuses : (Fails : Fault → Type 0) (entries : Entries) (name : List ℕ) (failure : Failure) (refusal : Refusal)
    → IsUnopened entries name failure ⊎ IsLack Fails failure → failure ≡ Refused refusal → IsUnopened entries name (Refused refusal)
refuses Fails entries name failure refusal h5 is = search rules
