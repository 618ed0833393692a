-- What a site asks of another, and what it makes of the replies.
use Rattle.std.specs.{Prelude.{◌≡◌, ◌≢◌, ◌⊎◌, ℕ, ◌+◌, ◌-◌, ◌^◌, ◌≤◌, min, fold, flat_map, List, [], ◌∷◌, ◌++◌, length, Option, Some, None, Result, Ok, Err, ⊤}, List.AllByRecursion, Io.KnownBytes.{Consumes, IsAtEnd}}
use Rattle.stn_device.specs.Bytes.{most_bytes}
use Rattle.stn_effects.specs.Printing.{Device}
use Rattle.stn_lift.specs.PlanSource.{PlanSource}
use Rattle.stn_records.specs.Content.{Content, joined_contents}
use Rattle.stn_site.specs.{Refusals.take_refusal, declared.faults.ReplicaFault.ReplicaFault, Held.holding_state}
use Rattle.stn_wire.specs.{Frame.{FrameContent, old_hello, old_records, hello, records, ask, text, refused, same, spelling, IsFrame}, Front.{IsFront, faulty, unfinished}, Stream.wire_fault}
use Rattle.stn_session.specs.declared.exchange.ReplyFault.{ReplyFault, TheVariants.{Refused, Frame, Reply, Replica, Read, Bound, Memory}}

-- what is asked: HELLO with what the plan is made from, RECORDS with the whole state, ASK
abbrev pub request_bytes : PlanSource → Content → List ℕ
request_bytes source state = spelling (hello source) ++ (spelling (records state) ++ spelling ask)

-- which reply is waited for, SAME, then RECORDS, then TEXT; the text that came; or what refused a reply
pub data Stage : Type 0 where
  greeting : Stage
  handing : Stage
  telling : Stage
  told : List ℕ → Stage
  failed : ReplyFault → Stage

-- what the replies have come to, and the state
pub record Reception : Type 0 where
  pub stage : Stage
  pub state : Content

abbrev pub at_stage : Stage → Content → Reception
at_stage stage state = record { stage = stage; state = state }

-- nothing came yet
abbrev pub expecting : Content → Reception
expecting state = at_stage greeting state

-- why a frame that is not waited for is refused
abbrev pub unexpected : FrameContent → ReplyFault
unexpected (old_hello source) = Reply
unexpected (old_records state) = Reply
unexpected (hello source) = Reply
unexpected (records state) = Reply
unexpected ask = Reply
unexpected (text bytes) = Reply
unexpected (refused code) = Refused code
unexpected same = Reply

-- the first reply is SAME
abbrev pub greeted_by : Content → FrameContent → Reception
greeted_by state same = at_stage handing state
greeted_by state other = at_stage (failed (unexpected other)) state

-- records are taken in, or refused
abbrev pub received : Content → Content → Option ReplicaFault → Reception
received state theirs None = at_stage telling (joined_contents state theirs)
received state theirs (Some fault) = at_stage (failed (Replica fault)) state

-- the second is RECORDS
abbrev pub handed : PlanSource → Content → FrameContent → Reception
handed source state (records theirs) = received state theirs (take_refusal (holding_state source state) theirs)
handed source state other = at_stage (failed (unexpected other)) state

-- the third is TEXT
abbrev pub reception_of : Content → FrameContent → Reception
reception_of state (text bytes) = at_stage (told bytes) state
reception_of state other = at_stage (failed (unexpected other)) state

-- a frame by the stage; what stands after the text, or after what was refused, is not judged
abbrev pub staged : PlanSource → Stage → Content → FrameContent → Reception
staged source greeting state frame = greeted_by state frame
staged source handing state frame = handed source state frame
staged source telling state frame = reception_of state frame
staged source (told bytes) state frame = at_stage (told bytes) state
staged source (failed fault) state frame = at_stage (failed fault) state

-- replies, one after the other
abbrev pub replied : PlanSource → Reception → List FrameContent → Reception
replied source = fold (λ reception frame. staged source reception.stage reception.state frame)

-- a reply is waited for
abbrev pub IsWaiting : Stage → Type 0
IsWaiting greeting = ⊤
IsWaiting handing = ⊤
IsWaiting telling = ⊤
IsWaiting (told bytes) = ⊥
IsWaiting (failed fault) = ⊥

-- why no further reply came, of so many bytes that were read, with these after the frames: the input ended, or the rest shows a fault, or
-- the reader failed; Bound comes with the first byte beyond the limit
abbrev pub IsLost : List ℕ → ℕ → Option (List ℕ) → ReplyFault → Type 0
IsLost rest many after Reply = (many ≤ most_bytes) × IsFront rest unfinished × IsAtEnd after
IsLost rest many after (Frame fault) = (many ≤ most_bytes) × IsFront rest (faulty (wire_fault fault))
IsLost rest many after Read = (many ≤ most_bytes) × IsFront rest unfinished
IsLost rest many after Bound = (many ≡ most_bytes + 1) × ((left : List ℕ) × (byte : ℕ) × (rest ≡ left ++ byte ∷ []) × IsFront left unfinished)
IsLost rest many after Memory = many ≤ most_bytes
IsLost rest many after (Refused code) = ⊥
IsLost rest many after (Replica fault) = ⊥

-- what was answered, of so many bytes that were read, by what the frames came to: the text; or what refused one of them, or why no
-- further one came
abbrev pub IsReception : Reception → List ℕ → ℕ → Option (List ℕ) → Result (List ℕ) ReplyFault → Type 0
IsReception reception rest many after (Ok bytes) = (many ≤ most_bytes) × (reception.stage ≡ told bytes)
IsReception reception rest many after (Err fault) = ((many ≤ most_bytes) × (reception.stage ≡ failed fault)) ⊎ (IsWaiting reception.stage × IsLost rest many after fault)

-- what a value is seen as, where there is one
abbrev pub seen_value : {T U E : Type 0} → (T → U) → Result T E → Result U E
seen_value view (Ok value) = Ok (view value)
seen_value view (Err fault) = Err fault

-- replies that were received: the bytes that were read are frames and a rest, and the answer and the state are what the frames came to
pub record IsReceived (source : PlanSource) (first : Content) (before after : Option (List ℕ)) (state : Content) (answer : Result (List ℕ) ReplyFault) : Type 0 where
  pub bytes : List ℕ
  pub frames : List FrameContent
  pub rest : List ℕ
  pub reception : Reception
  pub consumed : Consumes before after bytes
  pub each : AllByRecursion IsFrame frames
  pub cut : bytes ≡ flat_map spelling frames ++ rest
  pub came : reception ≡ replied source (expecting first) frames
  pub is : IsReception reception rest (length bytes) after answer
  pub left : state ≡ reception.state

-- so from a reader, of which a call failed only where that is the answer
abbrev pub Receives : PlanSource → Content → Content → Device → Device → Result (List ℕ) ReplyFault → Type 0
Receives source first state old new answer = IsReceived source first old.bytes new.bytes state answer
    × (answer ≡ Err Read → new.failures ≡ min (old.failures + 1) (2 ^ 64 - 1)) × (answer ≢ Err Read → new.failures ≡ old.failures)
