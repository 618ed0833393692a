-- What a reading gives: a value, or its first fault.
use Rattle.std.{proofs.Common.{rules, ◌≡◌, Bool, cond, Result, Ok, Err}, specs.Result.{MatchResult, result_and}}
use Rattle.stn_text.specs.Faults.{◌>>=◌, Fails, Returns}

-- the step of a chain that gave a value
pub bind_ok : {A B F : Type 0} (first : Result A F) (next : A → Result B F) (given : B) → (first >>= next) ≡ Ok given
    → (found : A) × (first ≡ Ok found) × (next found ≡ Ok given)
bind_ok first next given is = search rules

-- what holds of the value of a chain, or of its fault
pub both_give : {A B F : Type 0} (P : A → Type 0) (Q : B → Type 0) (E : F → Type 0) (first : Result A F) (next : A → Result B F)
    → MatchResult first P E → ((found : A) → P found → MatchResult (next found) Q E) → MatchResult (first >>= next) Q E
both_give P Q E first next one other = search rules

-- of one of two
pub either_gives : {A F : Type 0} (P : A → Type 0) (E : F → Type 0) (test : Bool) (one other : Result A F)
    → MatchResult one P E → MatchResult other P E → MatchResult (cond test one other) P E
either_gives P E test one other first second = search rules

-- a value that was filled, or the first fault
pub filled : {F X Y : Type 0} (is_memory : F → Bool) (view : X → Y) (read : Result (Unit {0}) F) (value : X) (whole : Result X F) (meaning : Result Y F)
    → whole ≡ result_and read (Ok value) → Returns is_memory (λ _. view value) read meaning → Returns is_memory view whole meaning
filled is_memory view read value whole meaning is given = search rules

-- the fault of the first step is that of both
pub fails_first : {F A B : Type 0} (is_memory : F → Bool) (fault : F) (first : Result A F) (then : A → Result B F) → Fails is_memory fault first → Fails is_memory fault (first >>= then)
fails_first is_memory fault first then fails = search rules

-- a fault that is meant is given
pub fails_as_meant : {F A : Type 0} (is_memory : F → Bool) (fault : F) (meaning : Result A F) → meaning ≡ Err fault → Fails is_memory fault meaning
fails_as_meant is_memory fault meaning is = search rules
