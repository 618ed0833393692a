-- Other sites that come, one after the other.
use Rattle.std.specs.Prelude.{◌≡◌, ℕ, ◌<◌, false, List, [], ◌∷◌, ◌++◌, map, vec_len, vec_capacity, Option, None, Some, option_map}
use Rattle.stn_device.specs.{Partner.{PartnerState, partner_state, heard_bytes, heard_end}, declared.callers.MemoryCallers.MemoryCallers}

-- those that are still to come, in their order, and those that went, in the order in which they came
pub record CallersState : Type 0 where
  pub coming : List PartnerState
  pub gone : List PartnerState

-- the next one came in, where those to come are known
abbrev pub Comes : Option CallersState → Option CallersState → PartnerState → Type 0
Comes None new comer = new ≡ None
Comes (Some old) new comer = (later : List PartnerState) × (old.coming ≡ comer ∷ later) × (new ≡ Some (record { coming = later; gone = old.gone }))

-- it went, and was this then
abbrev pub gone_too : Option CallersState → PartnerState → Option CallersState
gone_too callers goer = option_map (λ all. record { coming = all.coming; gone = all.gone ++ goer ∷ [] }) callers

-- a site that says these bytes, and was told nothing yet
abbrev pub comer_saying : List ℕ → PartnerState
comer_saying bytes = record { unheard = Some bytes; told = Some []; ended = Some false; failed_reads = 0; failed_writes = 0 }

-- the sites in memory: of each that is to come what it says, and of each that went what became of it
abbrev pub callers_of : MemoryCallers → CallersState
callers_of callers = record {
  coming = map (λ bytes. comer_saying bytes.now) callers.coming.items;
  gone = map (partner_state (λ bytes. Some bytes.now) (λ ear. Some (heard_bytes ear)) (λ ear. Some (heard_end ear))) callers.gone.items;
}

-- there is room for one more that went
abbrev pub has_room : MemoryCallers → Type 0
has_room callers = vec_len callers.gone < vec_capacity callers.gone
