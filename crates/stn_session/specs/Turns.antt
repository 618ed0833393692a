-- For proofs alone: no public clause cites these words.
-- What one frame of a session or an exchange brings, as the code has it.
use Rattle.std.specs.{Prelude.{◌≡◌, ◌≢◌, ◌⊎◌, ℕ, Bool, true, false, ◌+◌, ◌≤◌, List, ◌++◌, length, flat_map, Option, Result, Ok, Err}, List.AllByRecursion, Io.KnownBytes.Consumes}
use Rattle.stn_device.specs.Bytes.{most_bytes}
use Rattle.stn_effects.specs.{Effects.{Effect, Gives}, Printing.{Device, Prints, BreaksOff}}
use Rattle.stn_lift.specs.PlanSource.{PlanSource}
use Rattle.stn_records.specs.Content.{Content}
use Rattle.stn_refusal.specs.declared.failure.Failure.{Failure}
use Rattle.stn_wire.specs.{Frame.{FrameContent, content, spelling, refused, IsFrame}, declared.frame.Frame.Frame, Stream.{pending, IsReading, Held.Stream}}
use Rattle.stn_session.specs.{Session.Answer, Serving.{IsReplyBytes, KeepsChange, Talk}, Exchange.{Reception, expecting, replied, IsLost, IsReceived}, declared.{session.KeepingFault.KeepingFault, replies.Turn.Turn, exchange.ReplyFault.ReplyFault}}
use Rattle.stn_session.specs.declared.session.KeepingFault.TheVariants as keeping
use Rattle.stn_session.specs.declared.session.ServeFault.TheVariants as serve

-- whether the state is another one
abbrev pub IsChange : Content → Content → Bool → Type 0
IsChange before after true = after ≢ before
IsChange before after false = after ≡ before

-- the answer's state is left, its reply's bytes were appended, and the turn says the rest
pub record IsAnswered (answer : Answer) (before state : Content) (old new : List ℕ) (turn : Turn) : Type 0 where
  pub bytes : List ℕ
  pub left : state ≡ answer.state
  pub changed : IsChange before state turn.changed
  pub replied : IsReplyBytes answer.reply bytes
  pub appended : new ≡ old ++ bytes
  pub greeted : turn.greeted ≡ answer.greeted
  pub ended : turn.ended ≡ answer.ended

-- the state is kept, where it changed
abbrev pub KeepsTurn : {P : Type 0} → Effect P (Unit {0}) → Bool → Effect P (Unit {0})
KeepsTurn Keeps true = Keeps
KeepsTurn Keeps false = Gives tt

-- the answer's state is left, and kept, where it is another one; or it could not be kept
abbrev pub TakesAnswer : {P : Type 0} → (Content → Effect P (Unit {0})) → Answer → Talk P → Talk P → Result (Unit {0}) Failure → Type 0
TakesAnswer Keeps answer old new kept = (new.state ≡ answer.state) × KeepsChange Keeps old.state new.state old.place new.place kept

-- an answer was taken, and then its reply written, or a front part of it; or it could not be kept, and nothing was written; or memory ran
-- out, and nothing was kept or written
abbrev pub AnswersFrame : {P : Type 0} → (Content → Effect P (Unit {0})) → Answer → Talk P → Talk P → Result Turn KeepingFault → Type 0
AnswersFrame Keeps answer old new (Ok turn) = TakesAnswer Keeps answer old new (Ok tt)
    × ((bytes : List ℕ) × IsReplyBytes answer.reply bytes × Prints old.told new.told bytes)
    × (turn.greeted ≡ answer.greeted) × (turn.ended ≡ answer.ended)
AnswersFrame Keeps answer old new (Err (keeping.Serve serve.Write)) = TakesAnswer Keeps answer old new (Ok tt)
    × ((bytes : List ℕ) × IsReplyBytes answer.reply bytes × BreaksOff old.told new.told bytes)
AnswersFrame Keeps answer old new (Err (keeping.Serve serve.Memory)) =
    ((new.state ≡ old.state) ⊎ (new.state ≡ answer.state)) × (new.place ≡ old.place) × (new.told ≡ old.told)
AnswersFrame Keeps answer old new (Err (keeping.Serve serve.Read)) = ⊥
AnswersFrame Keeps answer old new (Err (keeping.Serve serve.Bound)) = ⊥
AnswersFrame Keeps answer old new (Err (keeping.Keep failure)) = TakesAnswer Keeps answer old new (Err failure) × (new.told ≡ old.told)

-- REFUSED with the code was written, or a front part of it; or memory ran out
abbrev pub TellsRefused : ℕ → Device → Device → Result (Unit {0}) KeepingFault → Type 0
TellsRefused code old new (Ok done) = Prints old new (spelling (refused code))
TellsRefused code old new (Err (keeping.Serve serve.Write)) = BreaksOff old new (spelling (refused code))
TellsRefused code old new (Err (keeping.Serve serve.Memory)) = new ≡ old
TellsRefused code old new (Err (keeping.Serve serve.Read)) = ⊥
TellsRefused code old new (Err (keeping.Serve serve.Bound)) = ⊥
TellsRefused code old new (Err (keeping.Keep failure)) = ⊥

-- the next frame of the bytes, after which the rest is pending; or why there is none
abbrev pub IsFound : {A : Type 0} → List ℕ → ℕ → Stream → Option (List ℕ) → Result (Frame A) ReplyFault → Type 0
IsFound bytes many new after (Ok frame) = IsFrame (content frame) × (bytes ≡ spelling (content frame) ++ pending new) × IsReading new × (new.count ≡ many) × (many ≤ most_bytes)
IsFound bytes many new after (Err fault) = IsLost bytes many after fault

-- the bytes that were read for it
pub record FindsFrame {A : Type 0} (old new : Stream) (before after : Option (List ℕ)) (answer : Result (Frame A) ReplyFault) : Type 0 where
  pub bytes : List ℕ
  pub consumed : Consumes before after bytes
  pub found : IsFound (pending old ++ bytes) (old.count + length bytes) new after answer

-- the frames that were read came to this, and this is the rest of so many bytes
pub record Came (source : PlanSource) (first : Content) (before after : Option (List ℕ)) (rest : List ℕ) (taken : ℕ) (reception : Reception) : Type 0 where
  pub bytes : List ℕ
  pub frames : List FrameContent
  pub consumed : Consumes before after bytes
  pub many : taken ≡ length bytes
  pub each : AllByRecursion IsFrame frames
  pub cut : bytes ≡ flat_map spelling frames ++ rest
  pub came : reception ≡ replied source (expecting first) frames

-- one reply more was read, and came to this; or the fault is the answer, and the state stays
abbrev pub Leads : PlanSource → Content → Option (List ℕ) → Option (List ℕ) → Stream → Reception → Result (Unit {0}) ReplyFault → Type 0
Leads source first before after new reception (Ok done) = IsReading new × Came source first before after (pending new) new.count reception
Leads source first before after new reception (Err fault) = IsReceived source first before after reception.state (Err fault)
