-- For proofs alone: no public clause cites these words.
-- What the bytes of a reader are, as a log and as a text; of bytes that are not known this says that there are some.
use Rattle.std.specs.Prelude.{◌≡◌, ◌↔◌, ℕ, ◌+◌, Bool, true, List, take, Option, Some, None, Result, ⊤}
use Rattle.stn_text.specs.Bytes.{most_text}
use Rattle.stn_store.specs.{Log.{Log, IsLog}, declared.log.fault.LoadFault.LoadFault}

-- the bytes, where they are known
abbrev pub AreKnownBytes : Option (List ℕ) → List ℕ → Type 0
AreKnownBytes None bytes = ⊤
AreKnownBytes (Some known) bytes = known ≡ bytes

-- as a log they have this meaning
abbrev pub IsLogIn : Option (List ℕ) → Result Log LoadFault → Type 0
IsLogIn known meaning = (bytes : List ℕ) × AreKnownBytes known bytes × IsLog bytes meaning

-- the text of a domain or a plan: of a longer one than may be, one byte more than that, which shows it
abbrev pub IsTextIn : Option (List ℕ) → List ℕ → Type 0
IsTextIn known text = (bytes : List ℕ) × AreKnownBytes known bytes × (text ≡ take (most_text + 1) bytes)

-- they are these, or not
abbrev pub AreTheseIn : Option (List ℕ) → List ℕ → Bool → Type 0
AreTheseIn known bytes same = (found : List ℕ) × AreKnownBytes known found × (same ≡ true ↔ (found ≡ bytes))
