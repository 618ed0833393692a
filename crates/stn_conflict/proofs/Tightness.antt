use Rattle.std.{proofs.{Common.{rules, ◌≡◌, ℕ, ◌<◌, ◌≤◌, List, ◌++◌, length, take, arith}, lemmas.{Int.ints, List.{get_or-take, get_or_append_left, take-take, Elements.{All-take, All-from_get_or}}}}, specs.{Prelude.{ℤ, pos, neg_ℤ, ◌+ℤ◌, ◌-ℤ◌, ◌≤ℤ◌}, List.All}}
use Rattle.stn_net.specs.{Difference.Difference, Schedule.{Meets, IsSchedule}, Matrix.Tightest.IsTightest}
use Rattle.stn_conflict.specs.{declared.links.{Link.Link, Side.{Side, TheVariants.{Upper, Lower}}}, Arcs.{arc, arc_of, bound_at}, Relaxation.{NamesAmong, AreRelaxed}, Named.IsTight}

-- an event lies at 0 from itself
pub tightest_self : {bounds : List Difference} {x : ℕ} {m : ℤ} → IsTightest bounds x x m → m ≡ pos 0
tightest_self far = omega (arith, ints)

-- a schedule of the bounds is one of those before a place
pub schedule_before : (bounds : List Difference) (place : ℕ) (time : ℕ → ℤ) → IsSchedule bounds time → IsSchedule (take place bounds) time
schedule_before bounds place time s = search (rules, All-take)

-- and one of the bounds before a place is one of those before an earlier place
pub schedule_earlier : (bounds : List Difference) {i k : ℕ} {time : ℕ → ℤ} → i ≤ k → IsSchedule (take k bounds) time → IsSchedule (take i bounds) time
schedule_earlier bounds {i} {k} {time} below s = rw (take-take i k bounds below) at (schedule_before (take k bounds) i time s)

-- times by which each link is relaxed are a schedule, once they are moved so that the origin stands at 0
pub relaxed_schedule : {bounds : List Difference} (time : ℕ → ℤ) → AreRelaxed bounds time → IsSchedule bounds (λ x. time x -ℤ time 0)
relaxed_schedule {bounds} time relaxed = record {
  origin = omega (arith, ints);
  met = All-from_get_or (Meets (λ x. time x -ℤ time 0)) bounds (record { from = 0; to = 0; lo = pos 0; hi = pos 0 }) (λ place there.
      let b = bound_at bounds place in
      let low : time b.from ≤ℤ (time b.to +ℤ neg_ℤ b.lo) = relaxed (record { place = place; side = Lower }) there in
      let high : time b.to ≤ℤ (time b.from +ℤ b.hi) = relaxed (record { place = place; side = Upper }) there in
      (omega (arith, ints), omega (arith, ints)));
}

-- times that meet a bound keep to what each of its sides says
pub arc_kept : (bound : Difference) (side : Side) (time : ℕ → ℤ) → Meets time bound → (time (arc bound side).to -ℤ time (arc bound side).from) ≤ℤ (arc bound side).weight
arc_kept bound side time met = search rules

-- a schedule keeps to what each link says
pub link_kept : {bounds : List Difference} (link : Link) {time : ℕ → ℤ} → link.place < length bounds → IsSchedule bounds time → (time (arc_of bounds link).to -ℤ time (arc_of bounds link).from) ≤ℤ (arc_of bounds link).weight
link_kept link there s = search rules

-- over a link the tightest differences from one event grow by its weight at most
pub link_reaches : (bounds : List Difference) (start : ℕ) (link : Link) (m n : ℤ) → link.place < length bounds → IsTightest bounds start (arc_of bounds link).from m → IsTightest bounds start (arc_of bounds link).to n → n ≤ℤ (m +ℤ (arc_of bounds link).weight)
link_reaches bounds start link m n there near far = search (rules, ints)

-- a link of the bounds before a place is the same link of all the bounds
pub arc_before : (bounds : List Difference) {place : ℕ} (link : Link) → link.place < place → arc_of (take place bounds) link ≡ arc_of bounds link
arc_before bounds {place} link below = cc (get_or-take place bounds link.place _ below)

-- and so is one of the bounds, with more after them
pub arc_longer : (bounds more : List Difference) (link : Link) → link.place < length bounds → arc_of (bounds ++ more) link ≡ arc_of bounds link
arc_longer bounds more link there = cc (get_or_append_left bounds more _ link.place there)

-- a link is tight where the tightest differences to its ends differ by its weight
pub tight_from_sum : (bounds : List Difference) (start : ℕ) (link : Link) (m n : ℤ) → link.place < length bounds → IsTightest bounds start (arc_of bounds link).from m → IsTightest bounds start (arc_of bounds link).to n → m +ℤ (arc_of bounds link).weight ≡ n → IsTight bounds start link
tight_from_sum bounds start link m n there near far e = search rules

-- the tightest differences to the ends of a tight link differ by its weight
pub sum_from_tight : (bounds : List Difference) (start : ℕ) (link : Link) (m n : ℤ) → IsTightest bounds start (arc_of bounds link).from m → IsTightest bounds start (arc_of bounds link).to n → IsTight bounds start link → m +ℤ (arc_of bounds link).weight ≡ n
sum_from_tight bounds start link m n near far tight = search rules

-- both ends of a link are among the events that the bounds name
pub link_among : (bounds : List Difference) {count : ℕ} (link : Link) → All (NamesAmong count) bounds → link.place < length bounds → ((arc_of bounds link).from < count) × ((arc_of bounds link).to < count)
link_among bounds link named there = search rules
