-- What is done one after the other: each effect says what there was, what there is then, and what came of it.
use Rattle.std.specs.Prelude.{◌≡◌, ◌⊎◌, ℕ, zero, suc, Bool, true, false, Option, Some, None, Result, Ok, Err, ⊤}
use Rattle.stn_refusal.specs.declared.{failure.{Failure.{Failure, TheVariants.{Refused, Failed}}, Fault.{Fault, TheVariants.Memory}}, refusal.Refusal.Refusal}

-- from what there was to what there is then, with a value, or with why nothing further was done
abbrev pub Effect : Type 0 → Type 0 → Type 1
Effect World X = World → World → Result X Failure → Type 0

-- one effect, and then another by the value of the first; where the first stopped, nothing further was done
pub data Then {World X Y : Type 0} (First : Effect World X) (Next : X → Effect World Y) (old new : World) (ended : Result Y Failure) : Type 0 where
  stopped : (failure : Failure) → First old new (Err failure) → ended ≡ Err failure → Then First Next old new ended
  went : (value : X) (between : World) → First old between (Ok value) → Next value between new ended → Then First Next old new ended

-- memory ran out, or a device failed in one of these ways
abbrev pub IsLack : (Fault → Type 0) → Failure → Type 0
IsLack Fails (Failed fault) = (fault ≡ Memory) ⊎ Fails fault
IsLack Fails (Refused refusal) = ⊥

-- nothing is done, and this value given
abbrev pub Gives : {World X : Type 0} → X → Effect World X
Gives value old new ended = (new ≡ old) × (ended ≡ Ok value)

-- a value of this kind is found, or there is a reason or a lack; nothing is changed
abbrev pub Finds : {World X : Type 0} → (Fault → Type 0) → (World → X → Type 0) → (World → Failure → Type 0) → Effect World X
Finds Fails Is Prevents old new (Ok value) = (new ≡ old) × Is old value
Finds Fails Is Prevents old new (Err failure) = (new ≡ old) × (Prevents old failure ⊎ IsLack Fails failure)

-- a value of this kind is made, where there is no cause against it; or there is a first cause or a lack
abbrev pub Makes : {World X : Type 0} → (Fault → Type 0) → (X → Type 0) → (Option Failure → Type 0) → Effect World X
Makes Fails Is IsCause old new (Ok value) = (new ≡ old) × Is value × IsCause None
Makes Fails Is IsCause old new (Err failure) = (new ≡ old) × (IsCause (Some failure) ⊎ IsLack Fails failure)

-- what was said already settles it, but for a lack: nothing is read here
abbrev pub Settles : {World X : Type 0} → (Fault → Type 0) → Result X Failure → Effect World X
Settles Fails said old new (Ok value) = (new ≡ old) × (said ≡ Ok value)
Settles Fails said old new (Err failure) = (new ≡ old) × ((said ≡ Err failure) ⊎ IsLack Fails failure)

-- what came of it, as this says its value
abbrev pub seen : {X Y : Type 0} → (X → Y) → Result X Failure → Result Y Failure
seen see (Ok value) = Ok (see value)
seen see (Err failure) = Err failure

-- what came of it, as this says why there is no value
abbrev pub failing : {X Reason : Type 0} → (Reason → Failure) → Result X Reason → Result X Failure
failing why (Ok value) = Ok value
failing why (Err reason) = Err (why reason)

-- an effect so many times
abbrev pub Times : {World X : Type 0} → ℕ → Effect World X → Effect World (Unit {0})
Times zero Does = Gives tt
Times (suc count) Does = Then Does (λ _. Times count Does)

-- an effect again and again, until it gives `false`
pub data Repeats {World : Type 0} (Does : Effect World Bool) : World → World → Result (Unit {0}) Failure → Type 0 where
  broke : (old new : World) (failure : Failure) → Does old new (Err failure) → Repeats Does old new (Err failure)
  over : (old new : World) → Does old new (Ok false) → Repeats Does old new (Ok tt)
  again : (old between new : World) (ended : Result (Unit {0}) Failure) → Does old between (Ok true) → Repeats Does between new ended → Repeats Does old new ended

-- a refusal is given as a value; after a fault nothing further is done
abbrev pub Catches : {World X : Type 0} → Effect World X → Effect World (Result X Refusal)
Catches Does old new (Ok (Ok value)) = Does old new (Ok value)
Catches Does old new (Ok (Err refusal)) = Does old new (Err (Refused refusal))
Catches Does old new (Err (Failed fault)) = Does old new (Err (Failed fault))
Catches Does old new (Err (Refused refusal)) = ⊥

-- two endings are the same but for a lack: both gave a value, or both have one reason
abbrev pub EndAlike : {X Y : Type 0} → (Fault → Type 0) → Result X Failure → Result Y Failure → Type 0
EndAlike Fails (Ok value) (Ok other) = ⊤
EndAlike Fails (Ok value) (Err failure) = IsLack Fails failure
EndAlike Fails (Err failure) (Ok value) = IsLack Fails failure
EndAlike Fails (Err failure) (Err other) = IsLack Fails failure ⊎ IsLack Fails other ⊎ (failure ≡ other)
