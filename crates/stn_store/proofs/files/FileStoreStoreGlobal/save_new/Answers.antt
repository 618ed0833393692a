use Rattle.std.{proofs.Common.{◌≡◌, ℕ, List, [], Some, None, Result, Ok, Err, IfErr, refl, inl, inr}, specs.{Prelude.{◌⊎◌, MatchResult}, String.string_bytes}}
use Rattle.stn_store.specs.{Store.{log_there, IsTaken, IsLack}, Files.IsFileFault, declared.trouble.Undone.Undone}
use Rattle.stn_refusal.specs.declared.failure.Failure.{Failure}
use Rattle.stn_store.proofs.files.FileStoreStoreGlobal.save_new.Goals as goal

of_files : (name : List ℕ) {failure : Failure} → (failure ≡ log_there) ⊎ IsLack IsFileFault failure
    → IsTaken None name failure ⊎ IsLack IsFileFault failure
of_files name (inl there) = inl ((Some [], tt, refl), there)
of_files name (inr lack) = inr lack

of_told : (name : List ℕ) (made : Result (Unit {0}) Undone) (told : Result (Unit {0}) Failure)
    → MatchResult made (λ value. told ≡ Ok value) (λ undone. told ≡ Err undone.failure)
    → IfErr made (λ undone. (undone.failure ≡ log_there) ⊎ IsLack IsFileFault undone.failure)
    → IfErr told (λ failure. IsTaken None name failure ⊎ IsLack IsFileFault failure)
of_told name (Ok value) told same why = rw same tt
of_told name (Err undone) told same why = rw same (of_files name why)

pub returns-clause-failed : goal.returns-clause-failed
returns-clause-failed g c = of_told (string_bytes c.args.held.now.name) c.make-made.result c.told.result c.told.ensures c.make-made.ensures
