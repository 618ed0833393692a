-- Calls of a feeder, one after the other.
use Rattle.std.specs.Prelude.{◌≡◌, ℕ, List, [], ◌∷◌, take, flat_map, Option, Some, None, Result, Ok, Err}
use Rattle.stn_wire.specs.{Frame.{FrameContent, content}, Feeder.{FeederState, IsFed}, declared.{fault.WireFault.{WireFault, TheVariants.Memory}, feeder.Fed.Fed, frame.Frame.Frame}}

-- a call: the piece that was fed, and the answer
pub record Call (A : Type 0) : Type 0 where
  pub piece : List ℕ
  pub answer : Result (Fed A) WireFault

-- what the call leaves of a feeder, as `feed` says
pub record LeavesFeeder {A : Type 0} (old : FeederState) (call : Call A) (new : FeederState) : Type 0 where
  pub fed : old.broken ≡ None → IsFed old.held call.piece call.answer new
  pub broken : (fault : WireFault) → old.broken ≡ Some fault → (call.answer ≡ Err fault) × (new ≡ old)

-- calls, each on what the one before it left
abbrev pub Feeds : {A : Type 0} → FeederState → List (Call A) → FeederState → Type 0
Feeds first [] last = last ≡ first
Feeds first (call ∷ calls) last = (next : FeederState) × LeavesFeeder first call next × Feeds next calls last

-- the bytes that a feeder has from a call: those that were used; all that were fed, where they show a fault; none without memory
abbrev pub bytes_by : {A : Type 0} → List ℕ → Result (Fed A) WireFault → List ℕ
bytes_by piece (Ok fed) = take fed.used piece
bytes_by piece (Err Memory) = []
bytes_by piece (Err fault) = piece

abbrev pub frame_by : {A : Type 0} → Option (Frame A) → List FrameContent
frame_by None = []
frame_by (Some frame) = content frame ∷ []

abbrev pub frames_by : {A : Type 0} → Result (Fed A) WireFault → List FrameContent
frames_by (Ok fed) = frame_by fed.frame
frames_by (Err fault) = []

-- the bytes of all calls, and the frames that they gave
abbrev pub stream_of : {A : Type 0} → List (Call A) → List ℕ
stream_of calls = flat_map (λ call. bytes_by call.piece call.answer) calls

abbrev pub frames_of : {A : Type 0} → List (Call A) → List FrameContent
frames_of calls = flat_map (λ call. frames_by call.answer) calls
