use Rattle.std.{proofs.Common.{◌≡◌, ℕ, List, Option, None, Result, Ok, Err}, specs.Prelude.IfOk}
use Rattle.stn_store.specs.{Log.log_held, Bytes.IsLogIn, Store.Opens}
use Rattle.stn_site.specs.Held.{Held}
use Rattle.stn_refusal.specs.declared.failure.Failure.{Failure}
use Rattle.stn_store.proofs.files.FileStoreStoreGlobal.load.Goals as goal

of_files : (name : List ℕ) (site : ℕ) (known : Option (List ℕ)) (loaded : Result Held Failure)
    → IfOk loaded (λ held. IsLogIn known (Ok (log_held held))) → IfOk loaded (λ held. held.site ≡ site)
    → IfOk loaded (λ held. Opens None name site held)
of_files name site known (Ok held) said own = record { said = record { bytes = said.0; there = tt; meant = said.2 }; own = own }
of_files name site known (Err failure) said own = tt

pub returns-clause-opened : goal.returns-clause-opened
returns-clause-opened g c = rw c.unless_unread.ensures (of_files c.args.path.now c.args.site None c.read_log-read.result c.read_log-read.ensures.said c.read_log-read.ensures.site)
