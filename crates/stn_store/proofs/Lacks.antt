-- Lack of memory, and what a `?` passes on.
use Rattle.std.{proofs.Common.{rules, ◌≡◌, Result, Err, refl, inl}, specs.Prelude.IsErrAnd}
use Rattle.stn_store.specs.Store.{IsLack}
use Rattle.stn_refusal.specs.declared.failure.{Failure.{Failure, TheVariants.Failed}, Fault.{Fault, TheVariants.Memory}}

pub lack_of_memory : (Fails : Fault → Type 0) (failure : Failure) → failure ≡ Failed Memory → IsLack Fails failure
lack_of_memory Fails failure e = rw e (inl refl)

pub passed_on : {T E : Type 0} (answer : Result T E) (fault : E) → IsErrAnd answer (λ one. one ≡ fault) → answer ≡ Err fault
passed_on answer fault is = search rules
