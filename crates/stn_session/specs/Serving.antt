-- A session over a reader and a writer, which keeps what it takes in before it tells the other site of it. `Keeps state` says what it
-- is to keep a state.
use Rattle.std.specs.{Prelude.{◌≡◌, ◌≢◌, ◌⊎◌, ℕ, ◌+◌, ◌<◌, ◌≤◌, List, [], ◌∷◌, ◌++◌, length, flat_map, Option, Some, None, Result, Ok, Err, ⊤}, List.AllByRecursion, Io.KnownBytes.{Consumes, Appends, IsAtEnd}}
use Rattle.stn_device.specs.{Bytes.most_bytes, declared.whole.ReadFault.ReadFault}
use Rattle.stn_effects.specs.{Effects.{Effect, Gives}, Printing.Device}
use Rattle.stn_lift.specs.PlanSource.{PlanSource}
use Rattle.stn_records.specs.Content.{Content}
use Rattle.stn_refusal.specs.declared.failure.Failure.{Failure}
use Rattle.stn_site.specs.Report.{IsReport}
use Rattle.stn_wire.specs.{Frame.{FrameContent, text, spelling, IsFrame}, Front.{IsFront, faulty, unfinished}, Stream.{wire_fault, frame_code}, declared.stream.fault.FrameFault.FrameFault}
use Rattle.stn_session.specs.{Session.{Reply, said, reported, Session, opening, advanced, talked, broken_off}, declared.session.{End.{End, TheVariants.{Closed, Cut, Refused}}, KeepingFault.KeepingFault, Served.Served, ServeFault.{ServeFault, TheVariants.{Read, Write, Bound, Memory}}}}
use Rattle.stn_device.specs.declared.whole.ReadFault.TheVariants as stream
use Rattle.stn_session.specs.declared.session.KeepingFault.TheVariants as keeping

-- the bytes of a reply
abbrev pub IsReplyBytes : Reply → List ℕ → Type 0
IsReplyBytes (said frame) bytes = bytes ≡ spelling frame
IsReplyBytes (reported source state) bytes = (report : List ℕ) × IsReport source state report × (bytes ≡ spelling (text report))

-- the bytes of replies, one after the other
abbrev pub AreReplies : List Reply → List ℕ → Type 0
AreReplies [] bytes = bytes ≡ []
AreReplies (reply ∷ replies) bytes = (first : List ℕ) × (later : List ℕ) × IsReplyBytes reply first × AreReplies replies later × (bytes ≡ first ++ later)

-- the known bytes grew by those of the replies
abbrev pub WritesReplies : Option (List ℕ) → Option (List ℕ) → List Reply → Type 0
WritesReplies old new replies = (bytes : List ℕ) × AreReplies replies bytes × Appends old new bytes

-- the bytes are frames and what stands after them, and with the frames the session came to be what it is
pub record Reaches (first : Session) (bytes : List ℕ) (session : Session) (rest : List ℕ) : Type 0 where
  pub frames : List FrameContent
  pub each : AllByRecursion IsFrame frames
  pub cut : bytes ≡ flat_map spelling frames ++ rest
  pub talked : session ≡ talked first frames

-- how a session ends, by what stands after its frames, and what it is then: nothing does; less than a frame does; a reply ended it,
-- or a fault does
abbrev pub EndsSession : Session → List ℕ → End → Session → Type 0
EndsSession session rest Closed last = (session.ended ≡ None) × (rest ≡ []) × (last ≡ session)
EndsSession session rest Cut last = (session.ended ≡ None) × (0 < length rest) × IsFront rest unfinished × (last ≡ session)
EndsSession session rest (Refused code) last = ((session.ended ≡ Some code) × (last ≡ session))
    ⊎ ((fault : FrameFault) × (session.ended ≡ None) × IsFront rest (faulty (wire_fault fault)) × (code ≡ frame_code fault) × (last ≡ broken_off session code))

-- a session over some bytes: how it ended, and what it was then
pub record IsSession (first : Session) (bytes : List ℕ) (end : End) (last : Session) : Type 0 where
  pub session : Session
  pub rest : List ℕ
  pub reached : Reaches first bytes session rest
  pub ends : EndsSession session rest end last

-- what a session is when one thing more was answered: a frame in front of the rest, or the fault that the rest shows
abbrev pub GoesOn : Session → List ℕ → Session → Type 0
GoesOn session rest next =
    ((frame : FrameContent) × (later : List ℕ) × IsFrame frame × (rest ≡ spelling frame ++ later) × (next ≡ advanced session frame))
    ⊎ ((fault : FrameFault) × IsFront rest (faulty (wire_fault fault)) × (next ≡ broken_off session (frame_code fault)))

-- all replies of the session were written, and a front part of those of the next
pub record WritesPart (old new : Option (List ℕ)) (session next : Session) : Type 0 where
  pub done : List ℕ
  pub part : List ℕ
  pub later : List ℕ
  pub replied : AreReplies session.replies done
  pub whole : AreReplies next.replies (done ++ (part ++ later))
  pub appended : Appends old new (done ++ part)

-- what a session may change: what the other site has left to say, what it was told, this site's state, and the place where states are
-- kept
pub record Talk (P : Type 0) : Type 0 where
  pub unheard : Device
  pub told : Device
  pub state : Content
  pub place : P

abbrev pub talk : {P : Type 0} → Device → Device → Content → P → Talk P
talk unheard told state place = record { unheard = unheard; told = told; state = state; place = place }

-- a state that is as it was is not kept again; another one is
abbrev pub KeepsChange : {P : Type 0} → (Content → Effect P (Unit {0})) → Content → Content → Effect P (Unit {0})
KeepsChange Keeps before after old new ended = ((after ≡ before) × Gives tt old new ended) ⊎ ((after ≢ before) × Keeps after old new ended)

-- so of each frame of a session, the state that it left
abbrev pub KeepsEach : {P : Type 0} → (Content → Effect P (Unit {0})) → Session → List FrameContent → P → P → Type 0
KeepsEach Keeps session [] old new = new ≡ old
KeepsEach {P = P} Keeps session (frame ∷ frames) old new =
    (between : P) × KeepsChange Keeps session.state (advanced session frame).state old between (Ok tt) × KeepsEach Keeps (advanced session frame) frames between new

-- a session that keeps nothing
abbrev pub KeepsNothing : Content → Effect (Unit {0}) (Unit {0})
KeepsNothing state = Gives tt

-- all replies of a session were written
abbrev pub HasReplied : {P : Type 0} → Session → Talk P → Talk P → Type 0
HasReplied session old new = WritesReplies old.told.bytes new.told.bytes session.replies × (new.told.failures ≡ old.told.failures)

-- where the session ended with the input, no byte is left
abbrev pub IsInputEnd : End → Option (List ℕ) → Type 0
IsInputEnd Closed known = IsAtEnd known
IsInputEnd Cut known = IsAtEnd known
IsInputEnd (Refused code) known = ⊤

-- how far a session came: the bytes that were read, the session that the frames among them make, what stands after these, and the
-- place by then
pub record Point (P : Type 0) : Type 0 where
  pub bytes : List ℕ
  pub session : Session
  pub rest : List ℕ
  pub kept : P

-- no more was read than a session may read, and no read failed
abbrev pub HearsWell : {P : Type 0} → Point P → Talk P → Talk P → Type 0
HearsWell at old new = (length at.bytes ≤ most_bytes) × (new.unheard.failures ≡ old.unheard.failures)

-- one thing more was taken, and its state is left; it was kept, where it is another one, or it could not be
pub record TakesOne {P : Type 0} (Keeps : Content → Effect P (Unit {0})) (at : Point P) (next : Session) (new : Talk P) (kept : Result (Unit {0}) Failure) : Type 0 where
  pub goes_on : GoesOn at.session at.rest next
  pub state : new.state ≡ next.state
  pub keeps : KeepsChange Keeps at.session.state next.state at.kept new.place kept

-- what broke a session off, and what it left. Read: no whole frame is left. Bound: nor before the first byte beyond the limit. Memory:
-- the next frame was taken or not, and is neither kept nor answered. Write: it was taken and kept, and part of its reply may be written
abbrev pub BreaksOffSession : {P : Type 0} → (Content → Effect P (Unit {0})) → Point P → Talk P → Talk P → ServeFault → Type 0
BreaksOffSession Keeps at old new Read = HasReplied at.session old new × (new.state ≡ at.session.state) × (new.place ≡ at.kept)
    × IsFront at.rest unfinished × (length at.bytes ≤ most_bytes) × (old.unheard.failures < new.unheard.failures)
BreaksOffSession Keeps at old new Bound = HasReplied at.session old new × (new.state ≡ at.session.state) × (new.place ≡ at.kept)
    × ((left : List ℕ) × (byte : ℕ) × (at.rest ≡ left ++ byte ∷ []) × IsFront left unfinished)
    × (length at.bytes ≡ most_bytes + 1) × (new.unheard.failures ≡ old.unheard.failures)
BreaksOffSession Keeps at old new Memory = HasReplied at.session old new × (new.place ≡ at.kept) × HearsWell at old new
    × ((new.state ≡ at.session.state) ⊎ ((next : Session) × GoesOn at.session at.rest next × (new.state ≡ next.state)))
BreaksOffSession Keeps at old new Write = ((next : Session) × TakesOne Keeps at next new (Ok tt) × WritesPart old.told.bytes new.told.bytes at.session next)
    × (old.told.failures < new.told.failures) × HearsWell at old new

-- how a session ended: it was served, all replies of its last state written; a fault broke it off; or a state could not be kept, and
-- nothing of the reply that tells of it is written
abbrev pub EndsAt : {P : Type 0} → (Content → Effect P (Unit {0})) → Point P → Talk P → Talk P → Result (Result Served ServeFault) Failure → Type 0
EndsAt Keeps at old new (Ok (Ok served)) =
    ((last : Session) × EndsSession at.session at.rest served.end last × HasReplied last old new × (served.frames ≡ last.frames) × (new.state ≡ last.state))
    × (new.place ≡ at.kept) × IsInputEnd served.end new.unheard.bytes × HearsWell at old new
EndsAt Keeps at old new (Ok (Err fault)) = (at.session.ended ≡ None) × BreaksOffSession Keeps at old new fault
EndsAt Keeps at old new (Err failure) = (at.session.ended ≡ None) × HasReplied at.session old new
    × ((next : Session) × TakesOne Keeps at next new (Err failure)) × HearsWell at old new

-- a session of a plan: frames were read and answered, each state that they changed was kept before its reply was written, and it ended
pub record Serves {P : Type 0} (Keeps : Content → Effect P (Unit {0})) (source : PlanSource) (old new : Talk P) (ended : Result (Result Served ServeFault) Failure) : Type 0 where
  pub at : Point P
  pub consumed : Consumes old.unheard.bytes new.unheard.bytes at.bytes
  pub reached : Reaches (opening source old.state) at.bytes at.session at.rest
  pub each : KeepsEach Keeps (opening source old.state) reached.frames old.place at.kept
  pub ends : EndsAt Keeps at old new ended

-- what came of a session, as a value: how it ended, or what broke it off; a state that could not be kept is a failure
abbrev pub session_answer : Result Served KeepingFault → Result (Result Served ServeFault) Failure
session_answer (Ok served) = Ok (Ok served)
session_answer (Err (keeping.Serve fault)) = Ok (Err fault)
session_answer (Err (keeping.Keep failure)) = Err failure

-- a fault of the stream is one of the session
abbrev pub serve_fault : ReadFault → ServeFault
serve_fault stream.Read = Read
serve_fault stream.Bound = Bound
serve_fault stream.Memory = Memory
