use Rattle.std.{proofs.{Common.{rules, ◌≡◌, ℕ, Bool, ◌||◌, ◌<◌, List, [], ◌∷◌, ◌++◌, length, map, take, arith}, Math.IntN.neg_ℤ-neg_ℤ, lemmas.{Int.ints, List.{get_or-map, get_or-take, map-append, take-map, length-map, length-take, Elements.All-map}}}, specs.Prelude.{ℤ, neg_ℤ, ◌+ℤ◌, ◌≤ℤ◌, nat_lt, int_lt, IsTrue, All}}
use Rattle.stn_time.specs.Time.{horizon}
use Rattle.stn_net.specs.{Difference.{Difference, NamesEvents}, Schedule.{Meets, IsSchedule, HasSchedule}, Matrix.Tightest.IsTightest}
use Rattle.stn_conflict.specs.{declared.{arcs.Direction.{Direction, TheVariants.{Forward, Backward}}, links.{Side.{Side, TheVariants.{Upper, Lower}}}}, Arcs.{arc, bound_at}, Directions.{turned, faced, facing}, Distances.{AreDistancesFrom, AreDistancesTo}, Relaxation.{AreLimited, IsNetwork, NamesAmong}, Search.{across, other_side}}

-- the times with their signs changed
abbrev opposite : (ℕ → ℤ) → ℕ → ℤ
opposite time x = neg_ℤ (time x)

-- a schedule of the turned bounds is one of the bounds, with the signs of its times changed
schedule_of_turned : {bounds : List Difference} {time : ℕ → ℤ} → IsSchedule (map turned bounds) time → IsSchedule bounds (opposite time)
schedule_of_turned {bounds} s = record {
  origin = (let o = s.origin in omega (arith, ints));
  met = λ k d below.
      let long = length-map bounds turned in
      let (low, high) = rw (get_or-map turned bounds k d (turned d) below) at (s.met k (turned d) (omega arith)) in
      (omega (arith, ints), omega (arith, ints));
}

-- and the other way round
schedule_turned : {bounds : List Difference} {time : ℕ → ℤ} → IsSchedule bounds time → IsSchedule (map turned bounds) (opposite time)
schedule_turned {bounds} {time} s = record {
  origin = (let o = s.origin in omega (arith, ints));
  met = All-map (Meets (opposite time)) turned bounds (λ k d below.
      let (low, high) = s.met k d below in
      (omega (arith, ints), omega (arith, ints)));
}

-- one of the bounds
pub bound_facing : (direction : Direction) (bounds : List Difference) {place : ℕ} → place < length bounds
    → (bound_at (facing direction bounds) place) ≡ faced direction (bound_at bounds place)
bound_facing direction bounds there = search (rules, get_or-map)

-- times that do what the turned bounds limit do what the bounds do, with their signs changed
limited_of_turned : (whole : ℕ) (bounds : List Difference) (time : ℕ → ℤ) → AreLimited whole (map turned bounds) time → AreLimited whole bounds (opposite time)
limited_of_turned whole bounds time met = λ link there listed.
    across_kept (bound_at bounds link.place) link.side (nat_lt link.place whole) listed (rw (bound_facing Backward bounds there) at (met (across link) (omega (arith, length-map bounds turned))))
  where
    across_kept : (b : Difference) (side : Side) (first : Bool) → IsTrue (first || int_lt (arc b side).weight horizon)
        → (IsTrue (first || int_lt (arc (turned b) (other_side side)).weight horizon)
        → time (arc (turned b) (other_side side)).to ≤ℤ (time (arc (turned b) (other_side side)).from +ℤ (arc (turned b) (other_side side)).weight))
        → opposite time (arc b side).to ≤ℤ (opposite time (arc b side).from +ℤ (arc b side).weight)
    across_kept b Upper first listed so =
        let met = so (rw (neg_ℤ-neg_ℤ b.hi) listed) in
        omega (arith, ints)
    across_kept b Lower first listed so =
        let met = so listed in
        omega (arith, ints)

-- the tightest difference of two events over turned bounds is that from the second to the first
pub tightest_of_turned : {bounds : List Difference} {x y : ℕ} {m : ℤ} → IsTightest (map turned bounds) x y m → IsTightest bounds y x m
tightest_of_turned {bounds} t = record {
  bound = λ time s. (let within = t.bound (opposite time) (schedule_turned s) in omega (arith, ints));
  attained =
      let (time, s, at) = t.attained in
      (opposite time, schedule_of_turned s, omega (arith, ints));
}

-- distances over turned bounds from an event are those to it
pub distances_of_turned : {bounds : List Difference} {events event : ℕ} {far : List ℤ} → AreDistancesFrom (map turned bounds) events event far → AreDistancesTo bounds events event far
distances_of_turned d = search (rules, tightest_of_turned, d.tightest)

-- as many bounds
pub length_facing : (direction : Direction) (bounds : List Difference) → length (facing direction bounds) ≡ length bounds
length_facing direction bounds = search (rules, length-map)

-- the first of the bounds
pub take_facing : (direction : Direction) (n : ℕ) (bounds : List Difference) → facing direction (take n bounds) ≡ take n (facing direction bounds)
take_facing direction n bounds = search (rules, take-map)

-- the bound and the bound turned round are about the same events
pub faced_ends : (direction : Direction) (bound : Difference) → ((faced direction bound).from ≡ bound.from) × ((faced direction bound).to ≡ bound.to)
faced_ends direction bound = search rules

-- one of the first of the bounds
pub bound_listed : (direction : Direction) (all : List Difference) {bounds : List Difference} (end : ℕ) {place : ℕ} → facing direction (take end all) ≡ bounds → place < length bounds
    → bound_at bounds place ≡ bound_at (facing direction all) place
bound_listed direction all end is there = search (rules, take_facing, length-take, get_or-take)

-- more bounds after them
pub append_facing : (direction : Direction) (bounds more : List Difference) → facing direction (bounds ++ more) ≡ facing direction bounds ++ facing direction more
append_facing direction bounds more = search (rules, map-append)

-- or one bound
pub facing_push : (direction : Direction) (bounds : List Difference) (bound : Difference) → facing direction (bounds ++ bound ∷ []) ≡ facing direction bounds ++ faced direction bound ∷ []
facing_push direction bounds bound = search (rules, map-append)

-- bounds about so many events are so when turned round
pub named_facing : (direction : Direction) {count : ℕ} (bounds : List Difference) → All (NamesAmong count) bounds → All (NamesAmong count) (facing direction bounds)
named_facing Forward bounds named = named
named_facing Backward bounds named = search (rules, All-map)

-- a network turned round is one
pub network_facing : (direction : Direction) {events : ℕ} {bounds : List Difference} → IsNetwork events bounds → IsNetwork events (facing direction bounds)
network_facing Forward network = network
network_facing Backward {events} {bounds} n = record {
  named = All-map (NamesEvents events) turned bounds (λ k d below. let ends = n.named k d below in record { from = ends.from; to = ends.to });
  apart = λ time s x y xs ys. (let near = n.apart (opposite time) (limited_of_turned events bounds time s) y x ys xs in omega (arith, ints));
}

-- and has a schedule where the network has one
pub has_facing : (direction : Direction) {bounds : List Difference} → HasSchedule bounds → HasSchedule (facing direction bounds)
has_facing Forward has = has
has_facing Backward (time, s) = search (rules, schedule_turned)
