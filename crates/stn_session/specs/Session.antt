-- What a session answers to frames: a table by kinds, and its fold.
use Rattle.std.specs.Prelude.{ℕ, ◌+◌, Bool, true, false, ◌==◌, ◌&&◌, if◌then◌else◌, fold, bytes_eq, List, [], ◌∷◌, ◌++◌, Option, Some, None, is_some, option_and_then}
use Rattle.stn_refusal.specs.{Codes.number_of, Refusals.code_of, declared.code.Code.{Code, TheVariants.{OtherPlan, Unexpected, OldVersion}}}
use Rattle.stn_lift.specs.PlanSource.{PlanSource, bare, files}
use Rattle.stn_records.specs.Content.{Content, joined_contents}
use Rattle.stn_site.specs.{Failures.replica_failure, Held.holding_state, Refusals.take_refusal}
use Rattle.stn_wire.specs.Frame.{FrameContent, old_hello, old_records, hello, records, ask, text, refused, same}

-- two plans are made from the same, byte for byte
abbrev pub same_source : PlanSource → PlanSource → Bool
same_source (bare ours) (bare theirs) = ours == theirs
same_source (files domain plan) (files other last) = bytes_eq domain other && bytes_eq plan last
same_source (bare ours) (files other last) = false
same_source (files domain plan) (bare theirs) = false

-- the code of what refuses to take in what another site holds; lack of memory has none
abbrev pub take_code : PlanSource → Content → Content → Option ℕ
take_code source state other = option_and_then (λ fault. code_of (replica_failure fault)) (take_refusal (holding_state source state) other)

-- a reply: a frame; or a TEXT frame with the report of a plan and a state
pub data Reply : Type 0 where
  said : FrameContent → Reply
  reported : PlanSource → Content → Reply

-- what one frame brings: the reply, the state that is left, whether the other site is known to have the same plan, and the code
-- that ends the session
pub record Answer : Type 0 where
  pub reply : Reply
  pub state : Content
  pub greeted : Bool
  pub ended : Option ℕ

-- the session goes on
abbrev pub replying : Reply → Content → Bool → Answer
replying reply state greeted = record { reply = reply; state = state; greeted = greeted; ended = None }

-- REFUSED with this code, and the session ends
abbrev pub ending : Code → Content → Bool → Answer
ending code state greeted = record { reply = said (refused (number_of code)); state = state; greeted = greeted; ended = Some (number_of code) }

-- the records are taken in, and the whole state is the reply; or they are refused, and the session goes on
abbrev pub taking : Content → Content → Option ℕ → Answer
taking state other None = replying (said (records (joined_contents state other))) (joined_contents state other) true
taking state other (Some code) = replying (said (refused code)) state true

-- the answer to a frame, in a plan, by the state and by whether a HELLO was accepted before
abbrev pub answer : PlanSource → Content → Bool → FrameContent → Answer
answer source state greeted (old_hello theirs) = ending OldVersion state greeted
answer source state greeted (old_records other) = ending OldVersion state greeted
answer source state greeted (hello theirs) = if same_source theirs source then replying (said same) state true else ending OtherPlan state greeted
answer source state true (records other) = taking state other (take_code source state other)
answer source state false (records other) = ending Unexpected state false
answer source state true ask = replying (reported source state) state true
answer source state false ask = ending Unexpected state false
answer source state greeted (text bytes) = ending Unexpected state greeted
answer source state greeted (refused code) = ending Unexpected state greeted
answer source state greeted same = ending Unexpected state greeted

-- a session: its plan, the replica's state, whether a HELLO was accepted, the replies, how many frames were answered, and the
-- code that ended it
pub record Session : Type 0 where
  pub source : PlanSource
  pub state : Content
  pub greeted : Bool
  pub replies : List Reply
  pub frames : ℕ
  pub ended : Option ℕ

-- nothing was said yet
abbrev pub opening : PlanSource → Content → Session
opening source state = record { source = source; state = state; greeted = false; replies = []; frames = 0; ended = None }

-- a frame was answered
abbrev pub followed : Session → Answer → Session
followed session answer = record {
  source = session.source;
  state = answer.state;
  greeted = answer.greeted;
  replies = session.replies ++ answer.reply ∷ [];
  frames = session.frames + 1;
  ended = answer.ended;
}

-- a frame is answered; a session that has ended answers nothing
abbrev pub advanced : Session → FrameContent → Session
advanced session frame =
    if is_some session.ended then session
    else followed session (answer session.source session.state session.greeted frame)

-- frames, one after the other
abbrev pub talked : Session → List FrameContent → Session
talked = fold advanced

-- REFUSED with the code of a fault ends the session; a fault is no frame
abbrev pub broken_off : Session → ℕ → Session
broken_off session code = record session { replies = session.replies ++ said (refused code) ∷ []; ended = Some code }
