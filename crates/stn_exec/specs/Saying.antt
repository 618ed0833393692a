-- For proofs alone: no public clause cites these words.
-- What a call answered or why it was declined, and how that was appended.
use Rattle.std.specs.Prelude.{◌≡◌, ◌⊎◌, ℕ, List, ◌++◌, Result, Ok, Err}
use Rattle.stn_refusal.specs.{declared.failure.Failure.Failure, Refusals.out_of_memory}
use Rattle.stn_world.specs.World.{World, content_at}
use Rattle.stn_site.specs.Held.{Held}
use Rattle.stn_command.specs.Query.{Query}
use Rattle.stn_exec.specs.{declared.answer.Answer.{Answer, TheVariants.Sent}, Effect.{CommandEffect, said, declined, telling}, Output.{IsAnswerText, Declines}}

-- a call left the world, and its answer, or why there is none, is the effect's reply; or memory ran out
abbrev pub IsEffect : Result Answer Failure → World → CommandEffect → Type 0
IsEffect (Ok answer) world effect = record { world = world; reply = said answer } ≡ effect
IsEffect (Err failure) world effect = (failure ≡ out_of_memory) ⊎ (record { world = world; reply = declined failure } ≡ effect)

-- what a call of the world answers: what is said where it was accepted, or why it was refused
abbrev pub call_answer : Result (Unit {0}) Failure → Answer → Result Answer Failure
call_answer (Ok done) made = Ok made
call_answer (Err failure) made = Err failure

-- so of one that sends a packet
abbrev pub sent_answer : Result ℕ Failure → Result Answer Failure
sent_answer (Ok number) = Ok (Sent number)
sent_answer (Err failure) = Err failure

-- the effect's world is left, and its answer was appended; or nothing was, and the failure is why there is no answer; or memory ran out
abbrev pub IsDone : World → List ℕ → List ℕ → CommandEffect → Result (Unit {0}) Failure → Type 0
IsDone world old new effect (Ok done) = (world ≡ effect.world) × ((text : List ℕ) × IsAnswerText effect.reply text × (new ≡ old ++ text))
IsDone world old new effect (Err failure) = (failure ≡ out_of_memory) ⊎ ((world ≡ effect.world) × Declines effect.reply failure × (new ≡ old))

-- whatever effect a call has, that effect is done
abbrev pub DoesCall : Result Answer Failure → List ℕ → List ℕ → Result (Unit {0}) Failure → Type 0
DoesCall outcome old new result = (world : World) (effect : CommandEffect) → IsEffect outcome world effect → IsDone world old new effect result

-- whatever site of a world holds this, what was read is told of that site
abbrev pub TellsAsked : Held → Result Query Failure → List ℕ → List ℕ → Result (Unit {0}) Failure → Type 0
TellsAsked held asked old new result =
    (world : World) (site : ℕ) → held.source ≡ world.source → held.state ≡ content_at world site → IsDone world old new (telling world site asked) result
