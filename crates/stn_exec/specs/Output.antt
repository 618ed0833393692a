-- The output that replies are, and how many of them are refusals.
use Rattle.std.specs.{Prelude.{◌≡◌, ◌⊎◌, ℕ, ◌+◌, Bool, if◌then◌else◌, List, [], ◌∷◌, ◌++◌, Option, Some, None}, Bool.Decides, Io.KnownBytes.Appends}
use Rattle.stn_refusal.specs.{declared.{refusal.Refusal.Refusal, failure.Failure.{Failure, TheVariants.Refused}}, Printed.refusal_text}
use Rattle.stn_command.specs.Query.{IsSaidIn, IsRefusedIn}
use Rattle.stn_exec.specs.{Answer.answer_text, Effect.{CommandReply, said, declined, told}}

-- the text is that of an answer, or is said to a query that nothing refuses
abbrev pub IsAnswerText : CommandReply → List ℕ → Type 0
IsAnswerText (said answer) text = text ≡ answer_text answer
IsAnswerText (declined cause) text = ⊥
IsAnswerText (told source state query) text = IsRefusedIn source state query None × IsSaidIn source state query text

-- the reply is no answer, for this cause
abbrev pub Declines : CommandReply → Failure → Type 0
Declines (said answer) cause = ⊥
Declines (declined given) cause = cause ≡ given
Declines (told source state query) cause = IsRefusedIn source state query (Some cause)

-- the text is printed for the reply: that of its answer, or that of the refusal for which it has none; a fault of a device or of memory has no text
abbrev pub IsReplyText : CommandReply → List ℕ → Type 0
IsReplyText reply text = IsAnswerText reply text ⊎ ((refusal : Refusal) × Declines reply (Refused refusal) × (text ≡ refusal_text refusal))

-- the reply is a refusal
abbrev pub IsRefusal : CommandReply → Type 0
IsRefusal reply = (cause : Failure) × Declines reply cause

-- so many of the replies are refusals
abbrev pub CountsRefusals : List CommandReply → ℕ → Type 0
CountsRefusals [] count = count ≡ 0
CountsRefusals (reply ∷ replies) count =
    (refused : Bool) × (others : ℕ) × Decides refused (IsRefusal reply) × CountsRefusals replies others × (count ≡ (if refused then 1 else 0) + others)

-- the text is the replies' texts, one after the other
abbrev pub IsOutput : List CommandReply → List ℕ → Type 0
IsOutput [] text = text ≡ []
IsOutput (reply ∷ replies) text = (first : List ℕ) × (rest : List ℕ) × IsReplyText reply first × IsOutput replies rest × (text ≡ first ++ rest)

-- the text is a front part of the output of the first of the replies
pub record IsOutputPart (replies : List CommandReply) (text : List ℕ) : Type 0 where
  pub first : List CommandReply
  pub later : List CommandReply
  pub output : List ℕ
  pub left : List ℕ
  pub parts : replies ≡ first ++ later
  pub printed : IsOutput first output
  pub front : output ≡ text ++ left

-- the known bytes grew by the output of the replies
abbrev pub WritesOutput : Option (List ℕ) → Option (List ℕ) → List CommandReply → Type 0
WritesOutput old new replies = (text : List ℕ) × IsOutput replies text × Appends old new text

-- the known bytes grew by a front part of the output of the replies
abbrev pub WritesOutputPart : Option (List ℕ) → Option (List ℕ) → List CommandReply → Type 0
WritesOutputPart old new replies = (text : List ℕ) × IsOutputPart replies text × Appends old new text
