-- What there is outside of a program, and how effects on parts of it are effects on all.
use Rattle.std.specs.Prelude.{◌≡◌, ◌⊎◌, ℕ, List, Ok, Err}
use Rattle.stn_effects.specs.{Effects.Effect, Printing.{Device, Tells, TellsText}}
use Rattle.stn_exec.specs.Runs.{Streams, streams}
use Rattle.stn_line.specs.declared.words.Line.{Line}
use Rattle.stn_reasons.specs.Reasons.{IsReason}
use Rattle.stn_store.specs.Steps.{Entries}
use Rattle.stn_refusal.specs.declared.failure.Failure.{Failure}

-- what its store holds, what is left to read, and what it wrote
pub record Outside : Type 0 where
  pub entries : Entries
  pub unread : Device
  pub out : Device
  pub err : Device

abbrev pub outside : Entries → Device → Device → Device → Outside
outside entries unread out err = record { entries = entries; unread = unread; out = out; err = err }

-- an effect on the store alone
abbrev pub InStore : {X : Type 0} → Effect Entries X → Effect Outside X
InStore Does old new ended = Does old.entries new.entries ended × (new.unread ≡ old.unread) × (new.out ≡ old.out) × (new.err ≡ old.err)

-- on the standard output alone
abbrev pub OnStandardOutput : {X : Type 0} → Effect Device X → Effect Outside X
OnStandardOutput Does old new ended = Does old.out new.out ended × (new.entries ≡ old.entries) × (new.unread ≡ old.unread) × (new.err ≡ old.err)

-- on the standard error alone
abbrev pub OnError : {X : Type 0} → Effect Device X → Effect Outside X
OnError Does old new ended = Does old.err new.err ended × (new.entries ≡ old.entries) × (new.unread ≡ old.unread) × (new.out ≡ old.out)

-- on the input and the output alone
abbrev pub InStreams : {X : Type 0} → Effect Streams X → Effect Outside X
InStreams Does old new ended = Does (streams old.unread old.out) (streams new.unread new.out) ended × (new.entries ≡ old.entries) × (new.err ≡ old.err)

-- a text of this kind is printed on the standard error, as far as that takes it; or there was no memory for one
abbrev pub TellsSome : (List ℕ → Type 0) → Device → Device → Type 0
TellsSome Is err told = ((text : List ℕ) × Is text × TellsText text err told) ⊎ (told ≡ err)

-- such a text is told, and nothing else is changed
abbrev pub TellsOnly : (List ℕ → Type 0) → Outside → Outside → Type 0
TellsOnly Is old new = TellsSome Is old.err new.err × (new.entries ≡ old.entries) × (new.unread ≡ old.unread) × (new.out ≡ old.out)

-- a text is told, of a kind that the entries decide
abbrev pub Mentions : (Entries → List ℕ → Type 0) → Effect Outside (Unit {0})
Mentions Is old new ended = TellsOnly (Is old.entries) old new × (ended ≡ Ok tt)

-- why nothing further was done is told: the failure, and then its reason
pub record TellsWhy (line : Line) (failure : Failure) (old new : Outside) : Type 0 where
  pub between : Device
  pub told : Tells failure old.out new.out old.err between
  pub reason : TellsSome (IsReason old.entries line failure) between new.err
  pub entries : new.entries ≡ old.entries
  pub unread : new.unread ≡ old.unread

-- a command line comes to its end, with a status; or it stops, tells why, and its status is 1
abbrev pub Ends : (Line → Effect Outside ℕ) → Line → Outside → Outside → ℕ → Type 0
Ends Does line old new status =
    Does line old new (Ok status)
    ⊎ ((failure : Failure) × (between : Outside) × Does line old between (Err failure) × TellsWhy line failure between new × (status ≡ 1))
