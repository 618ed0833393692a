use Rattle.std.specs.{Prelude.{◌≡◌, ℕ, ℤ, Bool, true, false, ◌&&◌, ◌==◌, refl}, Ordering.int_eq, Coded.{Coded, code_by, coded×, coded_ℕ, coded_ℤ, coded_bool}}
use Rattle.stn_net.specs.Difference.{Difference}
use Rattle.stn_records.specs.declared.record.{Mark.{Mark, TheVariants.{Plain, Done}}, Record.Record}

-- a Done record fixes the time of an event: its bound is from the origin, and its sides are equal
abbrev pub IsProper : Mark → Difference → Type 0
IsProper Plain bound = Unit {0}
IsProper Done bound = (bound.from ≡ 0) × (bound.lo ≡ bound.hi)

abbrev pub IsProperRecord : Record → Type 0
IsProperRecord r = IsProper r.mark r.bound

-- whether two records are equal
abbrev pub same_marks : Mark → Mark → Bool
same_marks Plain Plain = true
same_marks Done Done = true
same_marks _ _ = false

abbrev pub same_bounds : Difference → Difference → Bool
same_bounds a b = (a.from == b.from) && (a.to == b.to) && int_eq a.lo b.lo && int_eq a.hi b.hi

abbrev pub same_records : Record → Record → Bool
same_records r s = same_marks r.mark s.mark && same_bounds r.bound s.bound

-- a mark as whether it is Done, and a record as a pair of its mark and its bound
abbrev pub is_done_mark : Mark → Bool
is_done_mark Plain = false
is_done_mark Done = true

abbrev pub mark_of : Bool → Mark
mark_of false = Plain
mark_of true = Done

pub mark_of-is_done_mark : (m : Mark) → mark_of (is_done_mark m) ≡ m
mark_of-is_done_mark Plain = refl
mark_of-is_done_mark Done = refl

abbrev pub coded_mark : Coded Mark
coded_mark = code_by Bool coded_bool is_done_mark mark_of mark_of-is_done_mark

abbrev pub coded_bound : Coded Difference
coded_bound = code_by ((ℕ × ℕ) × (ℤ × ℤ)) (coded× (coded× coded_ℕ coded_ℕ) (coded× coded_ℤ coded_ℤ)) (λ b. ((b.from, b.to), (b.lo, b.hi))) (λ p. record { from = p.0.0; to = p.0.1; lo = p.1.0; hi = p.1.1 }) (λ _. refl)

abbrev pub coded_record : Coded Record
coded_record = code_by (Mark × Difference) (coded× coded_mark coded_bound) (λ r. (r.mark, r.bound)) (λ p. record { mark = p.0; bound = p.1 }) (λ _. refl)
