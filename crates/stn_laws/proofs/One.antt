-- What is so of one value at most.
use Rattle.std.specs.Prelude.{◌≡◌}

abbrev pub IsOne : {X : Type 0} → (X → Type 0) → Type 0
IsOne {X} Is = (one other : X) → Is one → Is other → one ≡ other
