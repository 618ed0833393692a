-- A stream of frames that comes in pieces.
use Rattle.std.specs.Prelude.{◌≡◌, ◌≢◌, ℕ, ◌+◌, ◌≤◌, List, [], ◌++◌, length, Option, Some, None, Result, Ok, Err}
use Rattle.stn_wire.specs.{Frame.content, Front.{whole, faulty, unfinished, announced, IsFront}, declared.{fault.WireFault.{WireFault, TheVariants.{OldFrame, Memory}}, feeder.Fed.Fed, frame.Frame.Frame}}

-- the bytes of an unfinished frame, or the fault that was met
pub record FeederState : Type 0 where
  pub held : List ℕ
  pub broken : Option WireFault

abbrev pub holding : List ℕ → FeederState
holding bytes = record { held = bytes; broken = None }

abbrev pub broken_by : WireFault → FeederState
broken_by fault = record { held = []; broken = Some fault }

-- with the bytes that were held, a piece and how many of its bytes were used: the first frame that they complete, and
-- nothing is held; or none, and all is held
abbrev pub CompletesFrame : {A : Type 0} → List ℕ → List ℕ → ℕ → Option (Frame A) → FeederState → Type 0
CompletesFrame held piece used (Some frame) new = IsFront (held ++ piece) (whole (content frame) (length held + used)) × (new ≡ holding [])
CompletesFrame held piece used None new = IsFront (held ++ piece) unfinished × (used ≡ length piece) × (new ≡ holding (held ++ piece))

-- what a feed answers, and leaves: lack of memory leaves all as it was, and a fault is kept
abbrev pub IsFed : {A : Type 0} → List ℕ → List ℕ → Result (Fed A) WireFault → FeederState → Type 0
IsFed held piece (Ok fed) new = CompletesFrame held piece fed.used fed.frame new
IsFed held piece (Err Memory) new = new ≡ holding held
IsFed held piece (Err OldFrame) new = ⊥
IsFed held piece (Err fault) new = IsFront (held ++ piece) (faulty fault) × (new ≡ broken_by fault)

-- what is held is unfinished, and nothing is after a fault
abbrev pub IsFeeder : List ℕ → Option WireFault → Type 0
IsFeeder held None = IsFront held unfinished
IsFeeder held (Some fault) = (held ≡ []) × (fault ≢ Memory) × (fault ≢ OldFrame)

-- once the length and the kind of an unfinished frame are held: how many bytes it lacks
abbrev pub LacksBytes : List ℕ → ℕ → Type 0
LacksBytes held missing = 5 ≤ length held → length held + missing ≡ 4 + announced held
