-- Tests of a sum, and of a difference, of two times.
use Rattle.std.{proofs.Common.{rules, ◌≡◌, eqb, to_z, of_z, w64}, specs.{Prelude.{ℤ, ◌+ℤ◌, ◌-ℤ◌}, Ordering.int_eq}}
use Rattle.stn_time.specs.Time.{IsWithinHorizon}

pub sum_is : (m w n : ℤ) → IsWithinHorizon m → IsWithinHorizon w → IsWithinHorizon n
    → eqb (of_z w64 (to_z w64 (of_z w64 m) +ℤ to_z w64 (of_z w64 w))) (of_z w64 n) ≡ int_eq (m +ℤ w) n
sum_is m w n (ml, mh) (wl, wh) (nl, nh) = search rules

pub difference_is : (m w n : ℤ) → IsWithinHorizon m → IsWithinHorizon w → IsWithinHorizon n
    → eqb (of_z w64 (to_z w64 (of_z w64 m) -ℤ to_z w64 (of_z w64 w))) (of_z w64 n) ≡ int_eq (m -ℤ w) n
difference_is m w n (ml, mh) (wl, wh) (nl, nh) = search rules
