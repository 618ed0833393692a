-- What commands find in a store of logs and texts, and what they leave there.
use Rattle.std.specs.{Prelude.{◌≡◌, ◌⊎◌, ◌↔◌, ℕ, ◌+◌, Bool, true, List, [], ◌∷◌, ◌++◌, take, Option, Some, None, is_some, option_map, Result, Ok, Err, ⊤}, Bool.then_some, Option.option_or, Str.bytes_eq}
use Rattle.stn_text.specs.Bytes.{most_text}
pub use Rattle.stn_effects.specs.Effects.{IsLack}
use Rattle.stn_site.specs.Held.{Held}
use Rattle.stn_store.specs.{Log.{Log, log_held, log_text, IsLog, Failures.load_failure}, declared.log.fault.LoadFault.LoadFault}
use Rattle.stn_refusal.specs.{declared.{code.Code.TheVariants.LogThere, failure.{Failure.{Failure, TheVariants.Failed}, Fault.TheVariants.File}}, Refusals.refused}

-- bytes that were put under a name
pub record Entry : Type 0 where
  pub name : List ℕ
  pub bytes : List ℕ

-- the bytes under a name: those that were put there last
abbrev pub bytes_under : List Entry → List ℕ → Option (List ℕ)
bytes_under [] name = None
bytes_under (entry ∷ later) name = option_or (bytes_under later name) (then_some (bytes_eq entry.name name) entry.bytes)

-- bytes, or nothing, stand under a name of a store; of a store whose entries are not known this says nothing
abbrev pub Holds : Option (List Entry) → List ℕ → Option (List ℕ) → Type 0
Holds None name found = ⊤
Holds (Some entries) name found = bytes_under entries name ≡ found

-- whether something stands there
abbrev pub IsThere : Option (List Entry) → List ℕ → Bool → Type 0
IsThere entries name there = (found : Option (List ℕ)) × Holds entries name found × (is_some found ≡ there)

-- whether what stands there is these bytes
abbrev pub Has : Option (List Entry) → List ℕ → List ℕ → Bool → Type 0
Has entries name bytes has = (found : List ℕ) × Holds entries name (Some found) × (has ≡ true ↔ (found ≡ bytes))

-- the text of a name, as it is read: of a longer text than a domain or a plan may be one byte more than that, which shows it
abbrev pub Spells : Option (List Entry) → List ℕ → List ℕ → Type 0
Spells entries name text = (bytes : List ℕ) × Holds entries name (Some bytes) × (text ≡ take (most_text + 1) bytes)

-- the bytes of a name, as those of a log, have this meaning
pub record Means (entries : Option (List Entry)) (name : List ℕ) (meaning : Result Log LoadFault) : Type 0 where
  pub bytes : List ℕ
  pub there : Holds entries name (Some bytes)
  pub meant : IsLog bytes meaning

-- the log of a name says what a site holds
pub record Opens (entries : Option (List Entry)) (name : List ℕ) (site : ℕ) (held : Held) : Type 0 where
  pub said : Means entries name (Ok (log_held held))
  pub own : held.site ≡ site

-- nothing stands under a name, and so it can't be opened
abbrev pub IsMissing : Option (List Entry) → List ℕ → Failure → Type 0
IsMissing entries name failure = Holds entries name None × (failure ≡ Failed File)

-- a log is there already
abbrev pub log_there : Failure
log_there = refused LogThere

-- something stands under a name, and so no new log is saved there
abbrev pub IsTaken : Option (List Entry) → List ℕ → Failure → Type 0
IsTaken entries name failure = IsThere entries name true × (failure ≡ log_there)

-- why a log is not opened: nothing is there, or its bytes have a fault
abbrev pub IsUnopened : Option (List Entry) → List ℕ → Failure → Type 0
IsUnopened entries name failure = IsMissing entries name failure
    ⊎ ((fault : LoadFault) × Means entries name (Err fault) × (failure ≡ load_failure fault))

-- a log was saved, in place of what stood under its name
abbrev pub saved_too : Option (List Entry) → List ℕ → Log → Option (List Entry)
saved_too entries name log = option_map (λ all. all ++ record { name = name; bytes = log_text log } ∷ []) entries
