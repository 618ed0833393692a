-- What splitting an arc leaves.
use Rattle.std.{proofs.{Common.{rules, ◌≡◌, ℕ, ℤ, pos, ◌+ℤ◌, ◌-ℤ◌, ◌≤ℤ◌, ◌<ℤ◌, Bool, true, false, cond, List, [], ◌∷◌, ◌++◌, refl, sym, subst, arith}, lemmas.{Int.{ints, clamps}, List.Elements.{All-from_recursion, recursion_from_All, All-cons, All-head, All-tail, All-weaker}}}, specs.{Prelude.All, Int.{int_min, int_max, int_div_euclid}}}
use Rattle.stn_net.{proofs.{Closure.schedule_before, Schedules.{met_behind, schedule_with}, WindowEnds.lesser_schedule}, specs.{Difference.Difference, Schedule.{Meets, IsSchedule, HasSchedule}, Windows.Window.{IsInWindow, IsWindow}}}
use Rattle.stn_guard.specs.{declared.splitting.Arc.Arc, Making.{window_bound, is_implied, split_time, IsSplit, AreSplit}, Splitting.{Implies, LeavesTime}}

-- half of a number, rounded down
pub half_of : {z : ℤ} → ((int_div_euclid z (pos 2) +ℤ int_div_euclid z (pos 2)) ≤ℤ z) × (z ≤ℤ ((int_div_euclid z (pos 2) +ℤ int_div_euclid z (pos 2)) +ℤ pos 1))
half_of = search rules

-- what is known of the windows of an arc's events
pub record HasEnds (bounds : List Difference) (arc : Arc) (from to : ℤ × ℤ) : Type 0 where
  pub possible : HasSchedule bounds
  pub implied : Implies bounds arc
  pub from_window : IsWindow bounds arc.from from.0 from.1
  pub to_window : IsWindow bounds arc.to to.0 to.1

-- a window is not empty
pub window_ordered : {bounds : List Difference} {event : ℕ} {first last : ℤ} → HasSchedule bounds → IsWindow bounds event first last → first ≤ℤ last
window_ordered {event} possible window =
    let there = (window (possible.0 event)).0 (possible.0, possible.1, refl) in
    omega (arith, ints)

-- the first and the last time of a window are taken
pub takes_first : {bounds : List Difference} {event : ℕ} {first last : ℤ} → HasSchedule bounds → IsWindow bounds event first last → IsInWindow bounds event first
takes_first {bounds} {event} {first} {last} possible window = (window first).1 (omega (arith, ints), window_ordered possible window)

pub takes_last : {bounds : List Difference} {event : ℕ} {first last : ℤ} → HasSchedule bounds → IsWindow bounds event first last → IsInWindow bounds event last
takes_last {bounds} {event} {first} {last} possible window = (window last).1 (window_ordered possible window, omega (arith, ints))

-- where the windows don't imply the arc, the time in the middle leaves both events a time
pub middle_leaves_time : {bounds : List Difference} {arc : Arc} {from to : ℤ × ℤ} → HasEnds bounds arc from to → arc.weight <ℤ (to.1 -ℤ from.0)
    → LeavesTime arc from to (split_time arc from to)
middle_leaves_time {bounds} {arc} {from} {to} ends wider =
    let to_ordered = window_ordered ends.possible ends.to_window in
    let from_ordered = window_ordered ends.possible ends.from_window in
    let first = takes_first ends.possible ends.to_window in
    let met = ends.implied first.0 first.1 in
    let there = (ends.from_window (first.0 arc.from)).0 (first.0, first.1, refl) in
    let at = first.2 in
    let least = int_max to.0 (from.0 +ℤ arc.weight) in
    let greatest = int_min to.1 (from.1 +ℤ arc.weight) in
    let to_least : to.0 ≤ℤ least = omega (arith, ints, clamps) in
    let from_least : (from.0 +ℤ arc.weight) ≤ℤ least = omega (arith, ints, clamps) in
    let to_greatest : greatest ≤ℤ to.1 = omega (arith, ints, clamps) in
    let from_greatest : greatest ≤ℤ (from.1 +ℤ arc.weight) = omega (arith, ints, clamps) in
    let ordered : least ≤ℤ greatest = omega (arith, ints, clamps) in
    let middle = half_of {z = (least +ℤ greatest)} in
    record {
      to_first = omega (arith, ints, middle.0, middle.1);
      to_last = omega (arith, ints, middle.0, middle.1);
      from_first = omega (arith, ints, middle.0, middle.1);
      from_last = omega (arith, ints, middle.0, middle.1);
    }

-- the two bounds of a time that splits an arc
abbrev pub splitting : Arc → ℤ × ℤ → ℤ × ℤ → ℤ → List Difference
splitting arc from to time = window_bound arc.to (to.0, time) ∷ window_bound arc.from (time -ℤ arc.weight, from.1) ∷ []

-- `to` never comes more than `weight` after `from`, even in two schedules
abbrev pub IsApart : List Difference → Arc → Type 0
IsApart bounds arc = (one other : ℕ → ℤ) → IsSchedule bounds one → IsSchedule bounds other → (other arc.to -ℤ one arc.from) ≤ℤ arc.weight

-- what is left once an arc is split
pub record IsLeft (bounds : List Difference) (arc : Arc) (next : List Difference) : Type 0 where
  pub possible : HasSchedule next
  pub before : (time : ℕ → ℤ) → IsSchedule next time → IsSchedule bounds time
  pub apart : IsApart next arc
  pub after : (time from to : ℕ → ℤ) → IsSchedule bounds time → IsSchedule next from → time arc.from ≡ from arc.from → IsSchedule next to → time arc.to ≡ to arc.to → IsSchedule next time

module _ (bounds : List Difference) (arc : Arc) (from to : ℤ × ℤ) (time : ℤ) where
  -- the events come within the two bounds
  abbrev KeepsSplit : (ℕ → ℤ) → Type 0
  KeepsSplit times = ((to.0 ≤ℤ times arc.to) × (times arc.to ≤ℤ time)) × (((time -ℤ arc.weight) ≤ℤ times arc.from) × (times arc.from ≤ℤ from.1))

  split_schedule : {times : ℕ → ℤ} → IsSchedule bounds times → KeepsSplit times → IsSchedule (bounds ++ splitting arc from to time) times
  split_schedule {times} schedule keeps =
      let origin = schedule.origin in
      schedule_with bounds (splitting arc from to time) times schedule
      (All-from_recursion (Meets times) (splitting arc from to time)
      ((omega (arith, ints, keeps.0.0), omega (arith, ints, keeps.0.1)), ((omega (arith, ints, keeps.1.0), omega (arith, ints, keeps.1.1)), tt)))

  split_kept : {times : ℕ → ℤ} → IsSchedule (bounds ++ splitting arc from to time) times → KeepsSplit times
  split_kept {times} schedule =
      let met = recursion_from_All (Meets times) (splitting arc from to time) (met_behind bounds (splitting arc from to time) times schedule) in
      let origin = schedule.origin in
      ((omega (arith, ints, met.0.0), omega (arith, ints, met.0.1)), (omega (arith, ints, met.1.0.0), omega (arith, ints, met.1.0.1)))

  -- some schedule meets both
  pub splitting_possible : HasEnds bounds arc from to → LeavesTime arc from to time → HasSchedule (bounds ++ splitting arc from to time)
  splitting_possible ends leaves =
      let early = takes_first ends.possible ends.to_window in
      let late = takes_last ends.possible ends.from_window in
      let delay = time -ℤ to.0 in
      let first = leaves.to_first in
      let both : ℕ → ℤ = λ event. int_min (late.0 event) (early.0 event +ℤ delay) in
      let schedule : IsSchedule bounds both = lesser_schedule bounds late.0 early.0 delay late.1 early.1 (omega (arith, ints)) in
      let met = ends.implied early.0 early.1 in
      let early_at = early.2 in
      let late_at = late.2 in
      let last = leaves.from_last in
      let to_there = (ends.to_window (both arc.to)).0 (both, schedule, refl) in
      let from_there = (ends.from_window (both arc.from)).0 (both, schedule, refl) in
      let to_by : both arc.to ≤ℤ time = omega (arith, ints, clamps) in
      let from_by : (time -ℤ arc.weight) ≤ℤ both arc.from = omega (arith, ints, clamps) in
      (both, split_schedule schedule ((to_there.0, to_by), (from_by, from_there.1)))

  splitting_left : HasSchedule (bounds ++ splitting arc from to time) → IsLeft bounds arc (bounds ++ splitting arc from to time)
  splitting_left possible = record {
    possible = possible;
    before = schedule_before bounds (splitting arc from to time);
    apart = λ one other is_one is_other.
        let early = (split_kept is_one).1.0 in
        let late = (split_kept is_other).0.1 in
        omega (arith, ints, early, late);
    after = λ times one other schedule is_one from_same is_other to_same.
        split_schedule schedule (rw (from_same, to_same) ((split_kept is_other).0, (split_kept is_one).1));
  }

implied_left : {bounds : List Difference} {arc : Arc} {from to : ℤ × ℤ} → HasEnds bounds arc from to → (to.1 -ℤ from.0) ≤ℤ arc.weight → IsLeft bounds arc bounds
implied_left {arc} {from} {to} ends within = record {
  possible = ends.possible;
  before = λ time schedule. schedule;
  apart = λ one other is_one is_other.
      let first = (ends.from_window (one arc.from)).0 (one, is_one, refl) in
      let last = (ends.to_window (other arc.to)).0 (other, is_other, refl) in
      omega (arith, ints, first.0, last.1);
  after = λ time from to schedule is_from from_same is_to to_same. schedule;
}

left_at : {bounds : List Difference} {arc : Arc} {from to : ℤ × ℤ} (test : Bool) → is_implied arc from to ≡ test → HasEnds bounds arc from to
    → IsLeft bounds arc (bounds ++ cond test [] (splitting arc from to (split_time arc from to)))
left_at true e ends = search (rules, implied_left)
left_at false e ends = search (rules, ints, middle_leaves_time, splitting_left, splitting_possible)

pub ends_of_split : {bounds : List Difference} {arc : Arc} {next : List Difference} (split : IsSplit bounds arc next) → HasSchedule bounds → Implies bounds arc → HasEnds bounds arc split.from split.to
ends_of_split split possible implied = search rules

pub split_left : {bounds : List Difference} {arc : Arc} {next : List Difference} → IsSplit bounds arc next → HasSchedule bounds → Implies bounds arc → IsLeft bounds arc next
split_left {bounds} {arc} {next} split possible implied =
    subst (IsLeft bounds arc) (sym split.split_is)
    (left_at (is_implied arc split.from split.to) refl (ends_of_split split possible implied))

-- the same once all arcs are split
pub record AreLeft (bounds : List Difference) (arcs : List Arc) (split : List Difference) : Type 0 where
  pub possible : HasSchedule split
  pub before : (time : ℕ → ℤ) → IsSchedule split time → IsSchedule bounds time
  pub apart : All (IsApart split) arcs
  pub after : (time : ℕ → ℤ) → IsSchedule bounds time
      → All (λ arc. IsInWindow split arc.from (time arc.from) × IsInWindow split arc.to (time arc.to)) arcs → IsSchedule split time

pub are_left : {bounds : List Difference} (arcs : List Arc) {split : List Difference} → AreSplit bounds arcs split → HasSchedule bounds → All (Implies bounds) arcs → AreLeft bounds arcs split
are_left [] are possible implied = search rules
are_left {bounds} (arc ∷ arcs) {split} are possible implied =
    let next = are.0 in
    let first = split_left are.1 possible (All-head (Implies bounds) arc arcs implied) in
    let still : All (Implies next) arcs = All-weaker (Implies bounds) (Implies next) (λ other given time schedule. given time (first.before time schedule)) arcs (All-tail (Implies bounds) arc arcs implied) in
    let rest = are_left arcs are.2 first.possible still in
    record {
      possible = rest.possible;
      before = λ time schedule. first.before time (rest.before time schedule);
      apart = All-cons (IsApart split) arc arcs (λ one other is_one is_other. first.apart one other (rest.before one is_one) (rest.before other is_other)) rest.apart;
      after = λ time schedule within.
          let Within : Arc → Type 0 = λ a. IsInWindow split a.from (time a.from) × IsInWindow split a.to (time a.to) in
          let here = All-head Within arc arcs within in
          let in_next = first.after time here.0.0 here.1.0 schedule (rest.before here.0.0 here.0.1) (sym here.0.2) (rest.before here.1.0 here.1.1) (sym here.1.2) in
          rest.after time in_next (All-tail Within arc arcs within);
    }
