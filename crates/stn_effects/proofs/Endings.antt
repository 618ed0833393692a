-- How effects end: what they leave if they stop, and that two runs of one end alike.
use Rattle.std.{proofs.{Common.{rules, ◌≡◌, ◌⊎◌, inl, inr, ℕ, List, OnOk, IfErr, Option, Some, None, is_some, Result, Ok, Err, MatchResult, sym, ap, subst}, lemmas.{Bool.false≢true, Option.same_Some}}, specs.Prelude.⊤}
use Rattle.stn_effects.specs.{Effects.{Effect, Then, stopped, went, seen, Gives, Finds, Makes, Settles, IsLack, EndAlike}, Printing.{Device, Prints, IsUnprinted, Writes}}
use Rattle.stn_refusal.specs.declared.failure.{Failure.{Failure, TheVariants.Failed}, Fault.{Fault, TheVariants.Memory}}

-- a call that makes a value, or says the first cause against it
pub makes_of : {World T X : Type 0} (Fails : Fault → Type 0) (see : T → X) (Is : X → Type 0) (IsCause : Option Failure → Type 0) (call : Result T Failure) (old : World)
    → MatchResult call (λ value. Is (see value) × IsCause None) (λ failure. (failure ≡ Failed Memory) ⊎ IsCause (Some failure))
    → Makes Fails Is IsCause old old (seen see call)
makes_of Fails see Is IsCause call old is = search rules

-- a text was printed, or not
pub wrote : (answer : Result (Unit {0}) Failure) (text : List ℕ) (old new : Device) → OnOk answer (Prints old new text) → IfErr answer (IsUnprinted old new text) → Writes text old new answer
wrote answer text old new printed failed = search rules

-- nothing is changed
abbrev pub ChangesNothing : {World X : Type 0} → Effect World X → Type 0
ChangesNothing {World} {X} Does = (old new : World) (ended : Result X Failure) → Does old new ended → new ≡ old

-- nothing is, if it stops
abbrev pub KeepsIfStopped : {World X : Type 0} → Effect World X → Type 0
KeepsIfStopped {World} {X} Does = (old new : World) (failure : Failure) → Does old new (Err failure) → new ≡ old

-- it stops for a lack alone
abbrev pub StopsForLack : {World X : Type 0} → (Fault → Type 0) → Effect World X → Type 0
StopsForLack {World} {X} Fails Does = (old new : World) (failure : Failure) → Does old new (Err failure) → IsLack Fails failure

module _ {World X : Type 0} (Fails : Fault → Type 0) where
  pub makes_same : (Is : X → Type 0) (IsCause : Option Failure → Type 0) → ChangesNothing {World = World} (Makes Fails Is IsCause)
  makes_same Is IsCause old new h4 is = search rules

  pub reads_same : (said : Result X Failure) → ChangesNothing {World = World} (Settles Fails said)
  reads_same said old new h3 is = search rules

same_err : {X : Type 0} {failure other : Failure} → (let none : Result X Failure = Err failure in none) ≡ Err other → failure ≡ other
same_err is = cc

module _ {World X Y : Type 0} (First : Effect World X) (Next : X → Effect World Y) where
  pub then_same : ChangesNothing First → ((value : X) → ChangesNothing (Next value)) → ChangesNothing (Then First Next)
  then_same same later old new ended h5 = search rules

same_ok : {X : Type 0} {value other : X} → (let none : Result X Failure = Ok value in none) ≡ Ok other → value ≡ other
same_ok is = cc

-- two endings are the same but for a lack, and values are as this relation says
abbrev pub Alike : {X Y : Type 0} → (Fault → Type 0) → (X → Y → Type 0) → Result X Failure → Result Y Failure → Type 0
Alike Fails Same (Ok value) (Ok other) = Same value other
Alike Fails Same (Ok value) (Err failure) = IsLack Fails failure
Alike Fails Same (Err failure) (Ok value) = IsLack Fails failure
Alike Fails Same (Err failure) (Err other) = IsLack Fails failure ⊎ IsLack Fails other ⊎ (failure ≡ other)

-- so do two effects end, from here
abbrev pub EndSo : {World X Y : Type 0} → (Fault → Type 0) → (X → Y → Type 0) → World → Effect World X → Effect World Y → Type 0
EndSo {World} {X} {Y} Fails Same old Does Other = (new last : World) (ended : Result X Failure) (other : Result Y Failure) → Does old new ended → Other old last other → Alike Fails Same ended other

module _ (Fails : Fault → Type 0) where
  lack_alike : {X Y : Type 0} (Same : X → Y → Type 0) (failure : Failure) (other : Result Y Failure) → IsLack Fails failure → Alike {X = X} Fails Same (Err failure) other
  lack_alike Same failure other lack = search rules

  alike_lack : {X Y : Type 0} (Same : X → Y → Type 0) (failure : Failure) (other : Result X Failure) → IsLack Fails failure → Alike {Y = Y} Fails Same other (Err failure)
  alike_lack Same failure other lack = search rules

  pub as_alike : {X Y : Type 0} (ended : Result X Failure) (other : Result Y Failure) → Alike Fails (λ _ _. ⊤) ended other → EndAlike Fails ended other
  as_alike ended other is = search rules

  -- one effect and then another
  module _ {World X Y V W : Type 0} (First : Effect World X) (Next : X → Effect World V) (Other : Effect World Y) (Later : Y → Effect World W) where
    pub then_alike : (Same : X → Y → Type 0) (Ends : V → W → Type 0) (old : World) → ChangesNothing First → ChangesNothing Other → EndSo Fails Same old First Other
        → ((value : X) (other : Y) → Same value other → EndSo Fails Ends old (Next value) (Later other))
        → EndSo Fails Ends old (Then First Next) (Then Other Later)
    then_alike Same Ends old same stays first next new last ended other (stopped f a is) (stopped g b at) =
        rw (is, at) (first new last (Err f) (Err g) a b)
    then_alike Same Ends old same stays first next new last ended other (stopped f a is) (went y between b later) =
        rw is (lack_alike Ends f other (first new between (Err f) (Ok y) a b))
    then_alike Same Ends old same stays first next new last ended other (went x between a later) (stopped g b at) =
        rw at (alike_lack Ends g ended (first between last (Ok x) (Err g) a b))
    then_alike Same Ends old same stays first next new last ended other (went x one a n) (went y two b m) =
        next x y (first one two (Ok x) (Ok y) a b) new last ended other
        (subst (λ between. Next x between new ended) (same old one (Ok x) a) n)
        (subst (λ between. Later y between last other) (stays old two (Ok y) b) m)

  pub gives_alike : {World X : Type 0} (value other : X) (old : World) → value ≡ other → EndSo Fails (λ one last. one ≡ last) old (Gives value) (Gives other)
  gives_alike value other old same new last ended finished a b = rw (a.1, b.1) same

  -- effects that stop for a lack alone
  pub lacks_alike : {World X Y : Type 0} (old : World) (Does : Effect World X) (Other : Effect World Y) → StopsForLack Fails Does → StopsForLack Fails Other
      → EndSo Fails (λ _ _. ⊤) old Does Other
  lacks_alike old Does Other lacks fails new last h7 h8 a b = search rules

  last_alike : {X Y : Type 0} {ended : Result X Failure} {other : Result Y Failure} → ((failure : Failure) → ended ≡ Err failure → IsLack Fails failure)
      → ((failure : Failure) → other ≡ Err failure → IsLack Fails failure) → Alike Fails (λ _ _. ⊤) ended other
  last_alike first second = search rules

  -- after which nothing stops but for a lack
  module _ {World X Y V W : Type 0} (First : Effect World X) (Next : X → Effect World V) (Other : Effect World Y) (Later : Y → Effect World W) where
    pub then_done_alike : (Same : X → Y → Type 0) (old : World) → EndSo Fails Same old First Other
        → ((value : X) → StopsForLack Fails (Next value)) → ((value : Y) → StopsForLack Fails (Later value))
        → EndSo Fails (λ _ _. ⊤) old (Then First Next) (Then Other Later)
    then_done_alike Same old first next later new last ended other (stopped f a is) (stopped g b at) =
        rw (is, at) (first new last (Err f) (Err g) a b)
    then_done_alike Same old first next later new last ended other (stopped f a is) (went y between b m) =
        rw is (lack_alike {X = V} (λ _ _. ⊤) f other (first new between (Err f) (Ok y) a b))
    then_done_alike Same old first next later new last ended other (went x between a n) (stopped g b at) =
        rw at (alike_lack {Y = W} (λ _ _. ⊤) g ended (first between last (Ok x) (Err g) a b))
    then_done_alike Same old first next later new last ended other (went x one a n) (went y two b m) = last_alike
        (λ failure is. next x one new failure (subst (λ all. Next x one new all) is n))
        (λ failure is. later y two last failure (subst (λ all. Later y two last all) is m))

  pub gives_lacks : {World X : Type 0} (value : X) → StopsForLack {World = World} Fails (Gives value)
  gives_lacks value old new failure is = cc

  -- one value is found, or one reason
  module _ {World X Y : Type 0} (Is : World → X → Type 0) (Are : World → Y → Type 0) (Prevents Stops : World → Failure → Type 0) where
    pub finds_alike : (Same : X → Y → Type 0) (old : World) → ((value : X) (other : Y) → Is old value → Are old other → Same value other)
        → ((value : X) (failure : Failure) → Is old value → Stops old failure → ⊥) → ((value : Y) (failure : Failure) → Are old value → Prevents old failure → ⊥)
        → ((failure other : Failure) → Prevents old failure → Stops old other → failure ≡ other)
        → EndSo Fails Same old (Finds Fails Is Prevents) (Finds Fails Are Stops)
    finds_alike Same old one first second cause new last (Ok value) (Ok other) a b = one value other a.1 b.1
    finds_alike Same old one first second cause new last (Ok value) (Err failure) a (same, inl why) = absurd (first value failure a.1 why)
    finds_alike Same old one first second cause new last (Ok value) (Err failure) a (same, inr lack) = lack
    finds_alike Same old one first second cause new last (Err failure) (Ok value) (same, inl why) b = absurd (second value failure b.1 why)
    finds_alike Same old one first second cause new last (Err failure) (Ok value) (same, inr lack) b = lack
    finds_alike Same old one first second cause new last (Err failure) (Err other) (same, inr lack) b = inl lack
    finds_alike Same old one first second cause new last (Err failure) (Err other) (same, inl why) (stays, inr lack) = inr (inl lack)
    finds_alike Same old one first second cause new last (Err failure) (Err other) (same, inl why) (stays, inl reason) = inr (inr (cause failure other why reason))

  -- there is one cause, or none
  module _ {World X Y : Type 0} (Is : X → Type 0) (Are : Y → Type 0) (IsCause IsReason : Option Failure → Type 0) where
    pub makes_alike : (old : World) → ((cause other : Option Failure) → IsCause cause → IsReason other → cause ≡ other)
        → EndSo Fails (λ _ _. ⊤) old (Makes Fails Is IsCause) (Makes Fails Are IsReason)
    makes_alike old one new last (Ok value) (Ok other) a b = tt
    makes_alike old one new last (Ok value) (Err failure) a (same, inl why) = absurd (false≢true (ap is_some (one None (Some failure) a.2 why)))
    makes_alike old one new last (Ok value) (Err failure) a (same, inr lack) = lack
    makes_alike old one new last (Err failure) (Ok value) (same, inl why) b = absurd (false≢true (sym (ap is_some (one (Some failure) None why b.2))))
    makes_alike old one new last (Err failure) (Ok value) (same, inr lack) b = lack
    makes_alike old one new last (Err failure) (Err other) (same, inr lack) b = inl lack
    makes_alike old one new last (Err failure) (Err other) (same, inl why) (stays, inr lack) = inr (inl lack)
    makes_alike old one new last (Err failure) (Err other) (same, inl why) (stays, inl reason) =
        inr (inr (same_Some failure other (one (Some failure) (Some other) why reason)))

  -- what is read is one
  pub reads_alike : {World X : Type 0} (said : Result X Failure) (old : World) → EndSo Fails (λ one other. one ≡ other) old (Settles Fails said) (Settles Fails said)
  reads_alike said old new last h4 h5 a b = search rules
