-- Each sweep that lowers anything leaves fewer estimates above the highest times that are a floor: else all that are above these could be raised by one,
-- and be a floor still.
use Rattle.std.{proofs.{lemmas.{Grind.common_steps, Int.{ints, clamps, by_lt_z}, Bool.cases_eq}, Common.{rules, ◌≡◌, ℕ, zero, suc, ◌<◌, ◌≤◌, inl, inr, Bool, false, List, length, refl, arith}}, specs.{Prelude.{ℤ, pos, negsuc, ◌+ℤ◌, ◌-ℤ◌, ◌≤ℤ◌, ◌<ℤ◌, All}, Int.{int_min, int_max}}}
use Rattle.stn_net.specs.{Difference.Difference, Schedule.times_of}
use Rattle.stn_conflict.{specs.{Arcs.arc_of, Relaxation.{AreLimited, HasFallen, IsFloor, IsNetwork, IsRelaxedBut, Lowers, NamesAmong, is_fresh}}, proofs.{Relaxing.{all_relaxed, listed_more}, Tightness.link_among}}

-- a floor, and no floor is above it
pub record IsHighest (bounds : List Difference) (start : ℕ) (far : List ℤ) (top : ℕ → ℤ) : Type 0 where
  pub floor : IsFloor bounds start far top
  pub highest : (other : ℕ → ℤ) → IsFloor bounds start far other → ((x : ℕ) → x < length far → top x ≤ℤ other x) → (x : ℕ) → x < length far → other x ≤ℤ top x

-- the sum of the first so many numbers
abbrev total : ℕ → (ℕ → ℤ) → ℤ
total zero f = pos 0
total (suc n) f = total n f +ℤ f n

total_least : (n : ℕ) (f : ℕ → ℤ) → ((x : ℕ) → x < n → pos 0 ≤ℤ f x) → pos 0 ≤ℤ total n f
total_least zero f least = omega (arith)
total_least (suc n) f least =
    let before = total_least n f (λ x below. least x (omega arith)) in
    let last = least n (omega arith) in
    omega (arith, ints)

total_most : (n : ℕ) {f g : ℕ → ℤ} → ((x : ℕ) → x < n → f x ≤ℤ g x) → total n f ≤ℤ total n g
total_most zero most = omega (arith)
total_most (suc n) {f} {g} most =
    let before = total_most n (λ x below. most x (omega arith)) in
    let last = most n (omega arith) in
    omega (arith, ints)

total_less : (n x : ℕ) (f g : ℕ → ℤ) → ((x : ℕ) → x < n → f x ≤ℤ g x) → x < n → f x <ℤ g x → total n f <ℤ total n g
total_less zero x f g most below less = absurd (omega arith)
total_less (suc n) x f g most below less =
    let last = most n (omega arith) in
    elim (cases_eq x n) [
      | inl same ↦
          let before = total_most n (λ x below. most x (omega arith)) in
          let here : f n <ℤ g n = rw same at less in
          omega (arith, ints)
      | inr differs ↦
          let before = total_less n x f g (λ x below. most x (omega arith)) (omega arith) less in
          omega (arith, ints)
    ]

-- 1 for an estimate above the time
abbrev pub lift : (ℕ → ℤ) → List ℤ → ℕ → ℤ
lift low far x = int_max (pos 0) (int_min (pos 1) (times_of far x -ℤ low x))

-- how many of the first events have estimates above these times
abbrev pub above : ℕ → (ℕ → ℤ) → List ℤ → ℤ
above count low far = total count (lift low far)

pub above_least : (n : ℕ) (low : ℕ → ℤ) (far : List ℤ) → pos 0 ≤ℤ above n low far
above_least n low far = grind (arith, common_steps, total_least, ints)

-- all but the start at the most
pub above_most : (n start : ℕ) (low : ℕ → ℤ) (far : List ℤ) → start < n → times_of far start ≤ℤ low start → above n low far <ℤ pos n
above_most n start low far there at_start =
    let less = total_less n start (lift low far) (λ x. pos 1) (λ x below. omega (arith, ints, clamps)) there (omega (arith, ints, clamps)) in
    omega (arith, ints, counted n)
  where
    counted : (n : ℕ) → total n (λ x. pos 1) ≡ pos n
    counted zero = refl
    counted (suc n) = (let before = counted n in omega (arith, ints))

-- how far the estimates are above these times in all
abbrev gap : List ℤ → (ℕ → ℤ) → ℤ
gap far low = total (length far) (λ x. times_of far x -ℤ low x)

-- where there is a floor, there is a highest one: a higher one leaves less between itself and the estimates
pub some_highest : (bounds : List Difference) (start : ℕ) (far : List ℤ) (low : ℕ → ℤ) → IsFloor bounds start far low → ((top : ℕ → ℤ) → ¬ IsHighest bounds start far top) → ⊥
some_highest bounds start far low floor none = (let (room, less) = some_more (gap far low) in climb room low floor less)
  where
    some_more : (z : ℤ) → (n : ℕ) × (z <ℤ pos n)
    some_more (pos n) = (suc n, omega (arith, ints))
    some_more (negsuc n) = (0, omega (arith, ints))

    climb : (room : ℕ) (low : ℕ → ℤ) → IsFloor bounds start far low → gap far low <ℤ pos room → ⊥
    climb zero low floor less = (let least = total_least (length far) (λ x. times_of far x -ℤ low x) (λ x there. (let below = floor.below x there in omega (arith, ints))) in omega (arith, ints))
    climb (suc room) low floor less = none low (record {
      floor = floor;
      highest = λ other is higher x there. by_lt_z (low x) (other x) (λ above.
          let closer = total_less (length far) x (λ y. times_of far y -ℤ other y) (λ y. times_of far y -ℤ low y) (λ y below. (let most = higher y below in omega (arith, ints))) there (omega (arith, ints)) in
          absurd (climb room other is (omega (arith, ints)))) (λ most. most);
    })

module _ (whole events : ℕ) (bounds : List Difference) (start : ℕ) (first mid new : List ℤ) (fresh : List Bool) (top : ℕ → ℤ) (kept : events ≤ whole) (network : IsNetwork events bounds)
    (highest : IsHighest bounds start first top)
    (before : Lowers bounds start first mid) (sweep : Lowers bounds start mid new) (named : All (NamesAmong (length new)) bounds) (own : times_of new start ≡ pos 0)
    (relaxed : IsRelaxedBut whole bounds new fresh) (stale : (x : ℕ) → x < length new → times_of new x ≡ times_of mid x → is_fresh fresh x ≡ false) where
  floor : IsFloor bounds start new top
  floor = sweep.floors top (before.floors top highest.floor)

  -- the highest floor, and one more where the estimates are above it
  abbrev raised : ℕ → ℤ
  raised x = top x +ℤ lift top new x

  raised_most : {x : ℕ} → x < length new → raised x ≤ℤ times_of new x
  raised_most there = search (rules, floor, ints)

  module _ (all : (x : ℕ) → x < length new → lift top mid x ≤ℤ lift top new x) where
    raised_met : AreLimited events bounds raised
    raised_met link there listed =
        let (begins, ends) = link_among bounds link named there in
        let x = (arc_of bounds link).from in
        let met = floor.met link there in
        let low = floor.below x begins in
        let most = raised_most ends in
        by_lt_z (top x) (times_of new x) (λ higher. omega (arith, ints, clamps)) (λ at.
        let was = all x begins in
        let fall = sweep.fall x in
        let met = relaxed link there (listed_more bounds link kept listed) (stale x begins (omega (arith, ints, clamps))) in
        omega (arith, ints, clamps))

    raised_floor : IsFloor bounds start first raised
    raised_floor =
        let long = before.long in
        let longer = sweep.long in
        record {
          own = (let zero = highest.floor.own in omega (arith, ints, clamps));
          within = λ x there. (let h = highest.floor.within x there in omega (arith, ints, clamps));
          below = λ x there. (let most = raised_most {x = x} (omega arith) in let a = before.fall x in let b = sweep.fall x in omega (arith, ints));
          met = all_relaxed {events = events} {bounds = bounds} raised network raised_met;
        }

  -- so fewer are above it after a sweep that lowers something
  pub fewer_above : {event : ℕ} → HasFallen mid new event → above (length new) top new <ℤ above (length new) top mid
  fewer_above {event} fell = by_lt_z (above (length new) top new) (above (length new) top mid) (λ less. less) (λ more.
      let still : (x : ℕ) → x < length new → lift top new x ≤ℤ lift top mid x = λ x there. (let fall = sweep.fall x in omega (arith, ints, clamps)) in
      let all : (x : ℕ) → x < length new → lift top mid x ≤ℤ lift top new x = λ x there. by_lt_z (lift top new x) (lift top mid x)
      (λ less. (let fewer = total_less (length new) x (lift top new) (lift top mid) still there less in absurd (omega (arith, ints)))) (λ same. same) in
      let low = floor.below event fell.there in
      let less = fell.less in
      let same = all event fell.there in
      let long = before.long in
      let longer = sweep.long in
      let most = highest.highest raised (raised_floor all) (λ x there. omega (arith, ints, clamps)) event (omega (arith, fell.there)) in
      absurd (omega (arith, ints, clamps)))
