-- The first fault of a reading, and what a reader gives.
use Rattle.std.specs.Prelude.{◌≡◌, Bool, true, false, Result, Ok, Err}

-- the first fault, or what comes of the value
infixl 10 ◌>>=◌
abbrev pub ◌>>=◌ : {A B F : Type 0} → Result A F → (A → Result B F) → Result B F
(Ok x) >>= f = f x
(Err fault) >>= f = Err fault

abbrev pub Unless : Bool → Type 0 → Type 0
Unless true said = Unit {0}
Unless false said = said

-- The fault is the one that the meaning gives, unless memory ran out.
abbrev pub Fails : {F Y : Type 0} → (F → Bool) → F → Result Y F → Type 0
Fails is_memory fault meaning = Unless (is_memory fault) (meaning ≡ Err fault)

-- What a function returned, seen by view, is what the meaning gives, unless memory ran out.
abbrev pub Returns : {F X Y : Type 0} → (F → Bool) → (X → Y) → Result X F → Result Y F → Type 0
Returns is_memory view (Ok x) meaning = meaning ≡ Ok (view x)
Returns is_memory view (Err fault) meaning = Fails is_memory fault meaning
