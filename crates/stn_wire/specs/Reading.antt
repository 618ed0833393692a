-- For proofs alone: no public clause cites these words.
-- What a reader answers: the value that the bytes spell, or that they spell none.
use Rattle.std.specs.{Prelude.{◌≡◌, ◌≢◌, ℕ, ◌+◌, ◌<◌, ◌≤◌, Bool, true, false, List, [], ◌++◌, take, length, slice_index, Option, Some, None, Result, Ok, Err}, List.{flat_map, AllByRecursion}, FinMap.entries}
use Rattle.stn_records.specs.{Id.SiteCounter, Content.Content}
use Rattle.stn_wire.specs.{declared.{layout.Layout.Layout, fault.WireFault.{WireFault, TheVariants.{Body, Memory}}, feeder.Fed.Fed}, Frame.{FrameContent, IsState, HasSpelling, body_of}, Front.{announced, IsLength, IsKind, IsFront, faulty}, Feeder.{holding, CompletesFrame}, Spelling.{measured, counted, AreCounted, AreIds, amendments_bytes}}

-- the bytes spell the value that was read; where none was read, they spell none
abbrev pub IsReadFrom : {V : Type 0} → (V → Type 0) → (V → List ℕ) → List ℕ → Option V → Type 0
IsReadFrom Valid spell bytes (Some value) = Valid value × (bytes ≡ spell value)
IsReadFrom {V} Valid spell bytes None = (value : V) → Valid value → bytes ≢ spell value

-- so many values that each are valid, and what stands after them
pub record AreItems {X : Type 0} (Valid : X → Type 0) (count : ℕ) (values : List X) : Type 0 where
  pub many : length values ≡ count
  pub each : AllByRecursion Valid values

abbrev pub items_then : {X : Type 0} → (X → List ℕ) → List X × List ℕ → List ℕ
items_then spell found = flat_map spell found.0 ++ found.1

abbrev pub counted_then : {X : Type 0} → (X → List ℕ) → List X × List ℕ → List ℕ
counted_then spell found = counted spell found.0 ++ found.1

-- the entries of a state: some, or none
abbrev pub AreEntries : Bool → List (SiteCounter × SiteCounter) → Type 0
AreEntries true entries = (entries ≢ []) × AreCounted AreIds entries
AreEntries false entries = entries ≡ []

abbrev pub entries_then : List (SiteCounter × SiteCounter) × List ℕ → List ℕ
entries_then found = amendments_bytes found.0 ++ found.1

-- a state that a layout spells, with some entries or none
pub record IsStateWith (layout : Layout) (amended : Bool) (state : Content) : Type 0 where
  pub said : IsState layout state
  pub entries : AreEntries amended (entries state.replacements)

abbrev pub measured_then : List ℕ × List ℕ → List ℕ
measured_then found = measured found.0 ++ found.1

-- a body is read as a frame
abbrev pub IsBodyReading : List ℕ → Option FrameContent → Type 0
IsBodyReading = IsReadFrom HasSpelling body_of

-- what the first bytes say of how many the frame has: so many, as far as they show, five where its kind has not come
pub record IsWanted (bytes : List ℕ) (wanted : ℕ) : Type 0 where
  pub least : 5 ≤ wanted
  pub lasting : 4 ≤ length bytes → IsLength (announced bytes)
  pub short : length bytes < 5 → wanted ≡ 5
  pub known : 5 ≤ length bytes → IsKind (slice_index bytes 4)
  pub whole : 5 ≤ length bytes → wanted ≡ 4 + announced bytes

abbrev pub IsJudged : List ℕ → Result ℕ WireFault → Type 0
IsJudged bytes (Ok wanted) = IsWanted bytes wanted
IsJudged bytes (Err Body) = ⊥
IsJudged bytes (Err fault) = IsFront bytes (faulty fault)

-- what taking bytes of a piece answers, and what is held then; if memory runs out, more may be held after the bytes of before
abbrev pub IsFrameTaken : {A : Type 0} → List ℕ → List ℕ → Result (Fed A) WireFault → List ℕ → Type 0
IsFrameTaken held piece (Ok fed) left = CompletesFrame held piece fed.used fed.frame (holding left)
IsFrameTaken held piece (Err Memory) left = take (length held) left ≡ held
IsFrameTaken held piece (Err fault) left = IsFront (held ++ piece) (faulty fault)
