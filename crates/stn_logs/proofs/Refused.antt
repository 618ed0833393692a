-- A word that refuses a command.
use Rattle.std.proofs.Common.{rules, ◌≡◌, ◌⊎◌, Result, Ok, Err, ap}
use Rattle.stn_effects.specs.Effects.{failing}
use Rattle.stn_refusal.specs.{declared.failure.{Failure.Failure, Fault.Fault}, Refusals.out_of_memory}
use Rattle.stn_store.{specs.Steps.Entries}
use Rattle.stn_asked.specs.declared.words.RefusedWord.{RefusedWord}
use Rattle.stn_logs.specs.Commands.{Reads}

abbrev pub failed : {X : Type 0} → Result X RefusedWord → Result X Failure
failed = failing (λ refused. refused.failure)

pub read_so : {X : Type 0} {said : Result X RefusedWord} {value : X} → said ≡ Ok value → failed said ≡ Ok value
read_so is = ap failed is

-- why a word can't be read is why the command ends
pub unread : {X : Type 0} (Fails : Fault → Type 0) {entries : Entries} {said : Result X RefusedWord} {refused : RefusedWord}
    → (refused.failure ≡ out_of_memory) ⊎ (said ≡ Err refused) → Reads Fails said entries entries (Err refused.failure)
unread Fails h = search rules
