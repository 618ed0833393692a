use Rattle.std.{proofs.{Common.{rules, ◌≡◌, ℕ, List, Some, Result, Ok, Err, refl, sym, ap, inl, ◌∙◌}, lemmas.Result.IfErr-weaker}, specs.Prelude.{◌⊎◌, IfOk}}
use Rattle.stn_store.specs.{Log.{log_held, Failures.load_failure}, declared.log.fault.LoadFault.LoadFault, Bytes.IsLogIn, Memory.entries_of, Store.{Entry, Opens, IsUnopened, IsLack, bytes_under}}
use Rattle.stn_site.specs.Held.{Held}
use Rattle.stn_refusal.specs.declared.failure.{Failure.{Failure, TheVariants.Failed}, Fault.TheVariants.{Memory, Read}}
use Rattle.stn_store.proofs.memory.MemoryStoreStore.load.Goals as goal

of_memory : (entries : List Entry) (name : List ℕ) (site : ℕ) {known : List ℕ} (loaded : Result Held Failure) → bytes_under entries name ≡ Some known
    → IfOk loaded (λ held. IsLogIn (Some known) (Ok (log_held held))) → IfOk loaded (λ held. held.site ≡ site)
    → IfOk loaded (λ held. Opens (Some entries) name site held)
of_memory entries name site (Ok held) there said own =
    record { said = record { bytes = said.0; there = there ∙ ap Some said.1; meant = said.2 }; own = own }
of_memory entries name site (Err failure) there said own = tt

why_unopened : (entries : List Entry) (name known : List ℕ) → bytes_under entries name ≡ Some known → (failure : Failure)
    → (failure ≡ Failed Memory) ⊎ ((failure ≡ Failed Read) ⊎ ((fault : LoadFault) × IsLogIn (Some known) (Err fault) × (failure ≡ load_failure fault)))
    → IsUnopened (Some entries) name failure ⊎ IsLack (λ fault. fault ≡ Read) failure
why_unopened entries name known there failure h = search rules

pub returns-in-Some : goal.returns-in-Some
returns-in-Some g c =
    let entries = entries_of c.args.self.now in
    let known = c.in-Some.bytes.now in
    let there : bytes_under entries c.args.name.now ≡ Some known = sym c.in-Some.ensures in
    record {
      opened = of_memory entries c.args.name.now c.args.site c.read_log.result there c.read_log.ensures.said c.read_log.ensures.site;
      failed = IfErr-weaker c.read_log.result _ _ (why_unopened entries c.args.name.now known there) c.read_log.ensures.failed;
    }

pub returns-in-None : goal.returns-in-None
returns-in-None g c = record { opened = tt; failed = inl (inl (sym c.in-None.ensures, refl)) }
