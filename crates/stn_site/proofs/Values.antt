-- What an option, a result and a counter hold.
use Rattle.std.proofs.Common.{rules, ◌≡◌, ◌≢◌, ℕ, ◌<◌, ◌≤◌, true, false, Option, Some, Ok, Err, IfSome}

-- what an option holds, from what it is
pub held_is : {X : Type 0} (o : Option X) (x y : X) → o ≡ Some x → IfSome o (λ v. v ≡ y) → x ≡ y
held_is o x y e h = search rules

pub ok_not_err : {T E : Type 0} {x : T} {e : E} → Ok x ≢ Err e
ok_not_err is = absurd (cc)

-- a number that cannot pass a limit
pub not_past : (n : ℕ) → (65535 < n → false ≡ true) → n ≤ 65535
not_past n h = search rules
