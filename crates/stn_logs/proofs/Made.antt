-- New logs.
use Rattle.std.proofs.Common.{rules, ◌≡◌, ◌⊎◌, ℕ, false, List, Option, Result, OnOk, OnErr, IfErr, subst}
use Rattle.stn_lift.specs.PlanSource.{PlanSource}
use Rattle.stn_records.specs.Content.{Content}
use Rattle.stn_store.specs.{Log.Log, Store.{Entry, IsThere, IsTaken, IsLack, saved_too}, Steps.SavesNew}
use Rattle.stn_logs.specs.Commands.{SavesMade}
use Rattle.stn_refusal.specs.declared.failure.{Failure.Failure, Fault.Fault}

-- the same log was saved
pub saved_as : (Fails : Fault → Type 0) {name : List ℕ} {source same : PlanSource} {state held : Content} {old new : Option (List Entry)} {ended : Result (List ℕ) Failure}
    → source ≡ same → state ≡ held → SavesMade Fails name source state old new ended → SavesMade Fails name same held old new ended
saved_as Fails {name} {source} {held} {old} {new} {ended} from holding saved =
    subst (λ (plan : PlanSource). SavesMade Fails name plan held old new ended) from
    (subst (λ (content : Content). SavesMade Fails name source content old new ended) holding saved)

-- what a store did with it
pub save_ended : (saves : Result (Unit {0}) Failure) (Fails : Fault → Type 0) (old new : Option (List Entry)) (name : List ℕ) (log : Log)
    → OnOk saves (IsThere old name false) → OnOk saves (new ≡ saved_too old name log) → OnErr saves (new ≡ old)
    → IfErr saves (λ failure. IsTaken old name failure ⊎ IsLack Fails failure) → SavesNew Fails name log old new saves
save_ended saves Fails old new name log free saved kept failed = search rules
