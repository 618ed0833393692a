-- How the ends of windows come on with bounds on single events.
use Rattle.std.{proofs.{Common.{rules, ◌≡◌, inl, inr, ℕ, ◌+◌, ◌<◌, ◌≤◌, List, [], ◌∷◌, ◌++◌, length, take, sym, ap, ◌∙◌, arith}, lemmas.{Int.ints, Bool.cases_lt, List.{get_or_append_left, get_or_push, length-append, length-take, take-append-le, Elements.All-push}}}, specs.Prelude.{ℤ, pos, ◌+ℤ◌, ◌≤ℤ◌, All}}
use Rattle.stn_net.{specs.{Difference.{Difference, NamesEvents}, Schedule.{Meets, IsSchedule, HasSchedule, times_of}}, proofs.Closure.{schedule_before, schedule_last}}
use Rattle.stn_conflict.{specs.{declared.{arcs.Direction.Direction, links.{Link.Link, Side.{Side, TheVariants.{Upper, Lower}}}, windows.Ends.Ends}, Arcs.{arc, arc_of, bound_at}, Directions.{faced, facing}, Relaxation.{AreDistances, AreEstimates, AreRelaxed, AreSingle, HasTables, IsEnds, IsFloor, IsNetwork, NamesAmong}}, proofs.{Relaxing.{distances_relaxed, network_near, settled}, Tightness.{arc_before, arc_longer, link_kept, schedule_before as schedule_front}, Turned.{bound_facing, faced_ends, facing_push, has_facing, length_facing, network_facing, take_facing}}}

-- one more bound on a single event
pub single_push : {given : ℕ} (bounds : List Difference) (bound : Difference) → bound.from ≡ 0 → AreSingle given bounds → AreSingle given (bounds ++ bound ∷ [])
single_push bounds bound from single place past there = search (rules, get_or_append_left, get_or_push, length-append)

-- the distances from the origin over the bounds, which begin with those that are given, and a bound on a single event
pub record CanTake (events : ℕ) (given bounds : List Difference) (bound : Difference) (far : List ℤ) : Type 0 where
  pub taken : take (length given) bounds ≡ given
  pub single : AreSingle (length given) bounds
  pub from : bound.from ≡ 0
  pub named : NamesEvents events bound
  pub network : IsNetwork events given
  pub long : length far ≡ events + 1
  pub exact : AreDistances bounds 0 far
  pub possible : HasSchedule (bounds ++ bound ∷ [])

module _ (events : ℕ) (given bounds : List Difference) (bound : Difference) (old : List ℤ) (can : CanTake events given bounds bound old) where
  within : length given ≤ length bounds
  within = search (rules, length-take)

  -- a link of the given bounds
  front : (link : Link) → link.place < length given → arc_of given link ≡ arc_of bounds link
  front link below = cc (arc_before bounds link below)

  -- is relaxed by the distances
  pub given_relaxed : AreRelaxed given (times_of old)
  given_relaxed = λ link there. rw (front link there) (distances_relaxed can.exact link (omega (arith, there, within)))

  pub old_own : times_of old 0 ≡ pos 0
  old_own = search rules

  -- each schedule of all is a floor
  floor_by : {time : ℕ → ℤ} → IsSchedule (bounds ++ bound ∷ []) time → IsFloor given 0 old time × (time bound.to ≤ℤ bound.hi)
  floor_by {time} s =
      let before = schedule_before bounds (bound ∷ []) time s in
      let first = rw can.taken at (schedule_front bounds (length given) time before) in
      let origin = s.origin in
      let last = schedule_last bounds bound time s in
      let begins = ap time can.from in (
        record {
          own = origin;
          within = λ x below. (let near = network_near can.network first x 0 (omega (arith, can.long)) (omega arith) in omega (arith, ints));
          below = λ x below. (let most = (can.exact.tightest x below).bound time before in omega (arith, ints));
          met = λ link there. (let kept = link_kept link there first in omega (arith, ints));
        },
        omega (arith, ints, last.1),
      )

  pub some_floor : (low : ℕ → ℤ) × IsFloor given 0 old low × (low bound.to ≤ℤ bound.hi)
  some_floor = (let (time, s) = can.possible in let (floor, under) = floor_by s in (time, floor, under))

  module _ (new : List ℤ) (long : length new ≡ events + 1) (own : times_of new 0 ≡ pos 0) (met : AreRelaxed given (times_of new))
      (fall : (x : ℕ) → times_of new x ≤ℤ times_of old x) (here : times_of new bound.to ≤ℤ bound.hi)
      (floors : (low : ℕ → ℤ) → IsFloor given 0 old low → low bound.to ≤ℤ bound.hi → IsFloor given 0 new low) where
    floor : (time : ℕ → ℤ) → IsSchedule (bounds ++ bound ∷ []) time → IsFloor given 0 new time
    floor time s = (let (old_floor, under) = floor_by s in floors time old_floor under)

    named : All (NamesAmong (length new)) (bounds ++ bound ∷ [])
    named = All-push (NamesAmong (length new)) bounds bound (rw (can.long ∙ sym long) at can.exact.named) (omega (arith, can.named.from, long), omega (arith, can.named.to, long))

    -- a bound on a single event lets it come no sooner than its estimate
    no_later : {place : ℕ} → length given ≤ place → place < length (bounds ++ bound ∷ []) → times_of new (bound_at (bounds ++ bound ∷ []) place).to ≤ℤ (bound_at (bounds ++ bound ∷ []) place).hi
    no_later {place} past there = elim (cases_lt place (length bounds)) [
      | inl before ↦
          let b = bound_at bounds place in
          let most : times_of old b.to ≤ℤ (times_of old b.from +ℤ b.hi) = distances_relaxed can.exact (record { place = place; side = Upper }) before in
          let fell = fall b.to in
          let begins = ap (times_of old) (can.single place past before) in
          let zero = old_own in
          rw (get_or_append_left bounds (bound ∷ []) _ place before) (omega (arith, ints))
      | inr last ↦ rw (get_or_push bounds bound _ place (omega (arith, there, length-append bounds (bound ∷ [])))) here
    ]

    single_relaxed : (b : Difference) (side : Side) → b.from ≡ 0 → times_of new b.to ≤ℤ b.hi → b.lo ≤ℤ times_of new b.to
        → times_of new (arc b side).to ≤ℤ (times_of new (arc b side).from +ℤ (arc b side).weight)
    single_relaxed b Upper begins most least = (let zero = ap (times_of new) begins in omega (arith, ints))
    single_relaxed b Lower begins most least = (let zero = ap (times_of new) begins in omega (arith, ints))

    relaxed : AreRelaxed (bounds ++ bound ∷ []) (times_of new)
    relaxed link there = elim (cases_lt link.place (length given)) [
      | inl below ↦ rw (arc_longer bounds (bound ∷ []) link (omega (arith, below, within)), ← front link below) (met link below)
      | inr past ↦
          let (time, s) = can.possible in
          let kept : Meets time (bound_at (bounds ++ bound ∷ []) link.place) = s.met link.place _ there in
          let among : NamesAmong (length new) (bound_at (bounds ++ bound ∷ []) link.place) = named link.place _ there in
          let begins = single_push bounds bound can.from can.single link.place past there in
          let least = (floor time s).below (bound_at (bounds ++ bound ∷ []) link.place).to among.1 in
          let origin = s.origin in
          let begin = ap time begins in
          single_relaxed (bound_at (bounds ++ bound ∷ []) link.place) link.side begins (no_later past there) (omega (arith, ints, kept.0))
    ]

    estimates : AreEstimates (bounds ++ bound ∷ []) 0 new
    estimates = record {
      named = named;
      start_named = omega (arith, long);
      own = own;
      sound = λ time s x below. (let most = (floor time s).below x below in let origin = s.origin in omega (arith, ints));
      least = λ time s x below. (let least = (floor time s).within x below in let origin = s.origin in omega (arith, ints));
    }

    -- the estimates are the distances with one bound more
    pub narrowed : AreDistances (bounds ++ bound ∷ []) 0 new
    narrowed = (settled estimates relaxed).1

module _ {A : Type 0} (direction : Direction) (events : ℕ) (given bounds : List Difference) (bound : Difference) (ends : Ends A) (taken : take (length given) bounds ≡ given)
    (single : AreSingle (length given) bounds) (are : IsEnds direction events (length given) bounds ends) (from : bound.from ≡ 0) (named : NamesEvents events bound)
    (network : IsNetwork events given) (possible : HasSchedule (bounds ++ bound ∷ [])) where
  single_faced : AreSingle (length given) (facing direction bounds)
  single_faced = search (rules, length_facing, bound_facing)

  pub can_take : CanTake events (facing direction given) (facing direction bounds) (faced direction bound) ends.search.far.items
  can_take = record {
    taken = rw (length_facing direction given) (sym (take_facing direction (length given) bounds) ∙ ap (facing direction) taken);
    single = rw (length_facing direction given) single_faced;
    from = (faced_ends direction bound).0 ∙ from;
    named = record { from = omega (arith, (faced_ends direction bound).0, named.from); to = omega (arith, (faced_ends direction bound).1, named.to) };
    network = network_facing direction network;
    long = are.tables.far;
    exact = are.far;
    possible = rw (facing_push direction bounds bound) at (has_facing direction possible);
  }

  -- once they are lowered, they are the ends with one bound more
  pub ends_narrowed : {new : Ends A} → new.rows ≡ ends.rows → HasTables (events + 1) new.search → new.search.start ≡ 0 → times_of new.search.far.items 0 ≡ pos 0
      → AreRelaxed (facing direction given) (times_of new.search.far.items) → ((x : ℕ) → times_of new.search.far.items x ≤ℤ times_of ends.search.far.items x)
      → times_of new.search.far.items bound.to ≤ℤ (faced direction bound).hi
      → ((low : ℕ → ℤ) → IsFloor (facing direction given) 0 ends.search.far.items low → low bound.to ≤ℤ (faced direction bound).hi → IsFloor (facing direction given) 0 new.search.far.items low)
      → IsEnds direction events (length given) (bounds ++ bound ∷ []) new
  ends_narrowed {new} rows tables start own met fall here floors =
      let to = (faced_ends direction bound).1 in
      record {
        rows_are = rw (take-append-le (length given) bounds (bound ∷ []) (omega (arith, ap length taken, length-take (length given) bounds)), rows) are.rows_are;
        tables = tables;
        start = start;
        far = rw (facing_push direction bounds bound) (narrowed events (facing direction given) (facing direction bounds) (faced direction bound) ends.search.far.items can_take
            new.search.far.items tables.far own met fall (rw to here) (λ low floor under. floors low floor (rw to at under)));
      }
