-- What the bytes of a log say, and the bytes that say it.
pub mod Faults
pub mod Loading
pub mod Opening
pub mod Failures
use Rattle.std.specs.{Prelude.{◌≡◌, ℕ, ◌<◌, ◌⊎◌, Bool, true, false, nat_lt, List, [], ◌∷◌, ◌++◌, length, take, Option, Some, None, Result, Ok, Err, option_map}, Io.KnownBytes.{Consumes, IsAtEnd}, List.{flat_map, AllByRecursion}}
use Rattle.stn_device.specs.Bytes.{most_bytes}
use Rattle.stn_lift.specs.{PlanSource.{PlanSource, base_of}, declared.fault.BaseFault.BaseFault}
use Rattle.stn_records.specs.Content.{Content, no_content, joined_contents}
use Rattle.stn_site.specs.{declared.faults.ReplicaFault.ReplicaFault, Held.{Held, holding_state}, Refusals.take_refusal}
use Rattle.stn_wire.specs.{Frame.{FrameContent, old_hello, old_records, hello, records, spelling, IsFrame}, Front.{IsFront, faulty, unfinished}}
use Rattle.stn_store.specs.declared.log.{version.Version.{Version, TheVariants.{Old, New}}, fault.LoadFault.{LoadFault, TheVariants.{Read, Bound, Frame, LogForm, Base, Take, Memory}}}

-- what a log says: what the plan is made from, and a state
pub record Log : Type 0 where
  pub source : PlanSource
  pub state : Content

-- what a replica's log says; its site is not in it
abbrev pub log_held : Held → Log
log_held held = record { source = held.source; state = held.state }

-- the frames of a log: the source, and the whole state
abbrev pub log_text : Log → List ℕ
log_text log = spelling (hello log.source) ++ spelling (records log.state)

-- how far a log was read: the version of its frames, and what they say
pub record LogSoFar : Type 0 where
  pub version : Version
  pub log : Log

abbrev pub so_far : Version → Log → LogSoFar
so_far version log = record { version = version; log = log }

-- a source with a base opens a log that says nothing else yet
abbrev pub opened : Version → Result PlanSource BaseFault → Result LogSoFar LoadFault
opened version (Ok source) = Ok (so_far version (record { source = source; state = no_content }))
opened version (Err fault) = Err (Base fault)

-- a state is joined to that of a log, where nothing is against it
abbrev pub joined : Version → Option ReplicaFault → Log → Content → Result LogSoFar LoadFault
joined version (Some fault) log state = Err (Take fault)
joined version None log state = Ok (so_far version (record { source = log.source; state = joined_contents log.state state }))

-- records are taken
abbrev pub taken_in : Version → Log → Content → Result LogSoFar LoadFault
taken_in version log state = joined version (take_refusal (holding_state log.source log.state) state) log state

-- a frame after the first: RECORDS alone, of the version of the first
abbrev pub taken_later : Version → Log → FrameContent → Result LogSoFar LoadFault
taken_later Old log (old_records state) = taken_in Old log state
taken_later New log (records state) = taken_in New log state
taken_later version log frame = Err LogForm

-- one more frame: first HELLO
abbrev pub taken : Option LogSoFar → FrameContent → Result LogSoFar LoadFault
taken None (old_hello source) = opened Old (base_of source)
taken None (hello source) = opened New (base_of source)
taken None frame = Err LogForm
taken (Some begun) frame = taken_later begun.version begun.log frame

-- frame by frame, up to the first that is refused
abbrev pub all_taken_by : (Option LogSoFar → Result (Option LogSoFar) LoadFault) → Result LogSoFar LoadFault → Result (Option LogSoFar) LoadFault
all_taken_by later (Ok log) = later (Some log)
all_taken_by later (Err fault) = Err fault

abbrev pub all_taken : Option LogSoFar → List FrameContent → Result (Option LogSoFar) LoadFault
all_taken log [] = Ok log
all_taken log (frame ∷ frames) = all_taken_by (λ next. all_taken next frames) (taken log frame)

-- what is answered for bytes of which all frames were taken, and after which more bytes follow or none
abbrev pub IsEnding : Bool → List ℕ → Option LogSoFar → Result Log LoadFault → Type 0
IsEnding more behind log (Ok whole) = (more ≡ false) × (behind ≡ []) × (option_map (λ begun. begun.log) log ≡ Some whole)
IsEnding more behind log (Err (Frame fault)) = IsFront behind (faulty fault)
IsEnding more behind log (Err LogForm) = (more ≡ false) × IsFront behind unfinished × ((log ≡ None) ⊎ (0 < length behind))
IsEnding more behind log (Err Bound) = (more ≡ true) × IsFront behind unfinished
IsEnding more behind log (Err other) = ⊥

-- the first frame that is refused decides; where none is, what stands after the last whole one
abbrev pub IsLogAnswer : Bool → List ℕ → Result (Option LogSoFar) LoadFault → Result Log LoadFault → Type 0
IsLogAnswer more behind (Err fault) meaning = meaning ≡ Err fault
IsLogAnswer more behind (Ok log) meaning = IsEnding more behind log meaning

-- what these bytes, after the frames of a log, make of it
pub record IsRest (more : Bool) (log : Option LogSoFar) (bytes : List ℕ) (meaning : Result Log LoadFault) : Type 0 where
  pub frames : List FrameContent
  pub behind : List ℕ
  pub each : AllByRecursion IsFrame frames
  pub cut : bytes ≡ flat_map spelling frames ++ behind
  pub answer : IsLogAnswer more behind (all_taken log frames) meaning

-- the meaning of an input: of so many bytes as are read at most, and whether more follow
pub record IsLog (input : List ℕ) (meaning : Result Log LoadFault) : Type 0 where
  pub said : IsRest (nat_lt most_bytes (length input)) None (take most_bytes input) meaning

-- what was read has this meaning: the input ends there, or every input that begins so has it
abbrev pub IsDecided : Option (List ℕ) → Option (List ℕ) → Result Log LoadFault → Type 0
IsDecided old new meaning =
    (read : List ℕ) × Consumes old new read × ((IsAtEnd new × IsLog read meaning) ⊎ ((more : List ℕ) → IsLog (read ++ more) meaning))

-- what was read leaves a log open: whole frames that are all taken, and less than a frame after them
pub record IsOpen (old new : Option (List ℕ)) : Type 0 where
  pub frames : List FrameContent
  pub behind : List ℕ
  pub log : Option LogSoFar
  pub each : AllByRecursion IsFrame frames
  pub read : Consumes old new (flat_map spelling frames ++ behind)
  pub taken : all_taken None frames ≡ Ok log
  pub unfinished : IsFront behind unfinished

-- what a fault says of a log; nothing where a read failed or memory ran out
abbrev pub told_by : LoadFault → Option LoadFault
told_by Read = None
told_by Memory = None
told_by fault = Some fault

-- what an answer says
abbrev pub meaning_by : {X Y : Type 0} → (X → Y) → Result X LoadFault → Option (Result Y LoadFault)
meaning_by seen (Ok value) = Some (Ok (seen value))
meaning_by seen (Err fault) = option_map Err (told_by fault)

-- what it says of a log
abbrev pub meaning_of : Result Held LoadFault → Option (Result Log LoadFault)
meaning_of = meaning_by log_held
