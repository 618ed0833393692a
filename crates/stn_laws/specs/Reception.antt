-- What the bytes of a reader alone decide.
use Rattle.std.specs.Prelude.{ℕ, List, Result, Ok, Err, ⊤}
use Rattle.stn_session.specs.declared.exchange.ReplyFault.{ReplyFault, TheVariants.{Refused, Frame, Reply, Replica, Read, Bound, Memory}}

-- the answer says what the replies are: no read failed, and memory did not run out
abbrev pub SaysReplies : Result (List ℕ) ReplyFault → Type 0
SaysReplies (Ok bytes) = ⊤
SaysReplies (Err (Refused code)) = ⊤
SaysReplies (Err (Frame fault)) = ⊤
SaysReplies (Err Reply) = ⊤
SaysReplies (Err (Replica fault)) = ⊤
SaysReplies (Err Read) = ⊥
SaysReplies (Err Bound) = ⊤
SaysReplies (Err Memory) = ⊥
