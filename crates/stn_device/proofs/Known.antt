-- Known bytes over several calls of a device.
use Rattle.std.{proofs.{Common.{rules, ap, ◌≡◌, ℕ, ◌+◌, ◌-◌, ◌^◌, ◌<◌, ◌≤◌, min, List, ◌++◌, length, take, drop, Option, Some, None, IfSome, Result, Ok, Err, true, arith, append_assoc, length-append}, lemmas.List.take-append-drop, KnownBytes.{Appends-trans, Consumes-trans}}, specs.{Io.KnownBytes.{Appends, Consumes}, Result.{is_ok, OnOk}}}
use Rattle.stn_device.specs.Bytes.{ConsumesAtMost}

-- the fault of an answer
abbrev pub fault_or : {X E : Type 0} → E → Result X E → E
fault_or other (Ok given) = other
fault_or other (Err fault) = fault

-- an answer that was given is no fault
pub not_err : {X E : Type 0} (given : X) (fault : E) → (let answer : Result X E = Ok given in answer) ≡ Err fault → ⊥
not_err given fault is = cc

-- what an answer ensures where it was given
pub on_given : {X E P : Type 0} (answer : Result X E) → true ≡ is_ok answer → OnOk answer P → P
on_given answer is p = search rules

-- one more call failed
pub fails_more : (first old new : ℕ) → new ≡ min (old + 1) (2 ^ 64 - 1) → old ≡ first → first < 2 ^ 64 - 1 → first < new
fails_more first old new counts kept few = omega arith

-- two reads in a row use what both use
pub ConsumesAtMost-trans : (a b c : Option (List ℕ)) (bs cs : List ℕ) {n : ℕ} → Consumes a b bs → Consumes b c cs → length bs + length cs ≤ n → ConsumesAtMost a c n
ConsumesAtMost-trans a b c bs cs p q le = search (rules, Consumes-trans, length-append)

-- and show that more stood there than a limit, where both use more
pub longer_than : (a b c : Option (List ℕ)) (bs cs : List ℕ) {limit : ℕ} → Consumes a b bs → Consumes b c cs → limit < length bs + length cs → IfSome a (λ input. limit < length input)
longer_than None b c bs cs p q more = tt
longer_than (Some xs) None c bs cs p q more = absurd p
longer_than (Some xs) (Some ys) None bs cs p q more = absurd q
longer_than (Some xs) (Some ys) (Some zs) bs cs p q more = omega (arith, ap length p, ap length q, length-append bs ys, length-append cs zs)

-- a write that took n of the rest leaves what stands after them
pub AppendsPart-more : (a b c : Option (List ℕ)) {all : List ℕ} (front rest : List ℕ) {behind : List ℕ} (n : ℕ) → all ≡ front ++ rest → Appends a b front → Appends b c (take n rest) → behind ≡ drop n rest
    → (more : List ℕ) × (all ≡ more ++ behind) × Appends a c more
AppendsPart-more a b c front rest n e p q is = search (rules, take-append-drop, append_assoc, Appends-trans)
