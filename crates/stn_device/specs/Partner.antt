-- Another site, as a session or an exchange sees it.
use Rattle.std.specs.{Prelude.{◌≡◌, ◌⊎◌, ℕ, ◌+◌, ◌-◌, ◌^◌, ◌≤◌, min, Bool, true, List, length, Option, None, Some, ⊤}, Io.KnownBytes.{Consumes, Keeps, IsAtEnd}}
use Rattle.stn_device.specs.{Bytes.most_bytes, Counted.{counted_device, failure_count}, declared.partner.{Partner.Partner, Ear.Ear}}

-- what it has left to say and what it was told, and whether it was told that this is the end, where these are known; and how many
-- reads and writes failed
pub record PartnerState : Type 0 where
  pub unheard : Option (List ℕ)
  pub told : Option (List ℕ)
  pub ended : Option Bool
  pub failed_reads : ℕ
  pub failed_writes : ℕ

abbrev pub partner_state : {R W : Type 0} → (R → Option (List ℕ)) → (W → Option (List ℕ)) → (W → Option Bool) → Partner R W → PartnerState
partner_state remaining contents ended partner = record {
  unheard = remaining (counted_device partner.reader);
  told = contents (counted_device partner.writer);
  ended = ended (counted_device partner.writer);
  failed_reads = failure_count partner.reader;
  failed_writes = failure_count partner.writer;
}

-- one of which no clause knows what it says and is told, before anything failed
abbrev pub stranger : PartnerState
stranger = record { unheard = None; told = None; ended = None; failed_reads = 0; failed_writes = 0 }

-- the end was told, where that is known
abbrev pub IsEnded : Option Bool → Type 0
IsEnded None = ⊤
IsEnded (Some ended) = ended ≡ true

-- what it still said was heard: at most so many bytes as a session may have, and fewer only where it said no more or a read failed
pub record HearsRest (old new : PartnerState) : Type 0 where
  pub bytes : List ℕ
  pub heard : Consumes old.unheard new.unheard bytes
  pub few : length bytes ≤ most_bytes
  pub all : (length bytes ≡ most_bytes) ⊎ IsAtEnd new.unheard ⊎ (new.failed_reads ≡ min (old.failed_reads + 1) (2 ^ 64 - 1))

-- it was told the end, and the rest was heard; or a call failed, and nothing was heard
abbrev pub PartsWays : PartnerState → PartnerState → Type 0
PartsWays old new = Keeps old.told new.told
    × ((IsEnded new.ended × HearsRest old new × (new.failed_writes ≡ old.failed_writes))
    ⊎ ((new.ended ≡ old.ended) × (new.unheard ≡ old.unheard) × (new.failed_reads ≡ old.failed_reads)
    × (new.failed_writes ≡ min (old.failed_writes + 1) (2 ^ 64 - 1))))

-- what was heard in memory
abbrev pub heard_bytes : Ear → List ℕ
heard_bytes ear = ear.bytes.items

-- and whether the end was
abbrev pub heard_end : Ear → Bool
heard_end ear = ear.ended
