-- What is done with a store of logs and texts in one step; if it is not done, nothing is changed.
use Rattle.std.specs.Prelude.{◌≡◌, ◌⊎◌, ℕ, false, List, Option, Ok, Err}
use Rattle.stn_effects.specs.Effects.{Effect, Finds, IsLack}
use Rattle.stn_site.specs.Held.{Held}
use Rattle.stn_store.specs.{Log.Log, Store.{Entry, IsThere, IsTaken, IsMissing, IsUnopened, Opens, Spells, saved_too}}
use Rattle.stn_refusal.specs.declared.failure.Fault.{Fault}

-- what a store holds, if that is known
abbrev pub Entries : Type 0
Entries = Option (List Entry)

-- nothing stands under a name
abbrev pub FindsFree : (Fault → Type 0) → List ℕ → Effect Entries (Unit {0})
FindsFree Fails name = Finds Fails (λ entries _. IsThere entries name false) (λ entries failure. IsTaken entries name failure)

-- the text of a name
abbrev pub FindsText : (Fault → Type 0) → List ℕ → Effect Entries (List ℕ)
FindsText Fails name = Finds Fails (λ entries text. Spells entries name text) (λ entries failure. IsMissing entries name failure)

-- what a site holds by the log of a name
abbrev pub LoadsLog : (Fault → Type 0) → List ℕ → ℕ → Effect Entries Held
LoadsLog Fails name site = Finds Fails (λ entries held. Opens entries name site held) (λ entries failure. IsUnopened entries name failure)

-- a log is saved, in place of the one under its name
abbrev pub Saves : (Fault → Type 0) → List ℕ → Log → Effect Entries (Unit {0})
Saves Fails name log old new (Ok done) = new ≡ saved_too old name log
Saves Fails name log old new (Err failure) = (new ≡ old) × IsLack Fails failure

-- a log is saved under a name that is free
abbrev pub SavesNew : (Fault → Type 0) → List ℕ → Log → Effect Entries (Unit {0})
SavesNew Fails name log old new (Ok done) = IsThere old name false × (new ≡ saved_too old name log)
SavesNew Fails name log old new (Err failure) = (new ≡ old) × (IsTaken old name failure ⊎ IsLack Fails failure)
