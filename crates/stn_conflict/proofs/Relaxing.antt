use Rattle.std.{proofs.{lemmas.{Grind.common_steps, Int.ints, Bool.{cases_eq, cases_lt, or_left, or_right}, List.{take-take, get_or-set_same, get_or-set_other, get_or-replicate, get_or_push, length-take, length-append, length-set, length-replicate, Elements.{All-take, All-append, All-push}}}, Common.{rules, ◌≡◌, ℕ, Bool, true, false, lt-ltb, ◌+◌, ◌<◌, ◌≤◌, List, [], ◌∷◌, ◌++◌, length, set, take, replicate, ap, refl, ◌∙◌, arith}}, specs.Prelude.{ℤ, pos, ◌+ℤ◌, ◌-ℤ◌, ◌≤ℤ◌, int_lt, All}}
use Rattle.stn_time.specs.Time.{horizon}
use Rattle.stn_net.{specs.{Difference.{Difference, NamesEvents}, Schedule.{IsSchedule, HasSchedule, times_of}, Horizon.horizon_bounds, Ranges.CanBeApart}, proofs.Widest.horizon_times}
use Rattle.stn_conflict.{specs.{declared.links.Link.Link, Arcs.arc_of, Relaxation.{NamesAmong, IsNetwork, AreEstimates, AreDistances, AreLimited, AreRelaxed, IsArcBetween, IsFloor, IsListed, IsRelaxed, IsRelaxedBut, is_fresh}}, proofs.{Lowering.stale_before, Tightness.{arc_before, arc_longer, link_reaches, link_among, relaxed_schedule}, Known.known_first}}

-- the events of the plan are so many and the origin
pub among_events : (bounds : List Difference) {events count : ℕ} → count ≡ events + 1 → All (NamesEvents events) bounds → All (NamesAmong count) bounds
among_events bounds long named = search rules

-- bounds that begin with the horizon bounds keep all events within the horizon of each other
pub network_known : {events : ℕ} {bounds : List Difference} → take events bounds ≡ horizon_bounds events → All (NamesEvents events) bounds → IsNetwork events bounds
network_known {events} {bounds} begins named = record {
  named = named;
  apart = λ time met x y xs ys.
      let s : IsSchedule (horizon_bounds events) (λ z. time z -ℤ time 0) =
      rw begins at (relaxed_schedule {bounds = (take events bounds)} time (λ link there.
      let front : link.place < events = omega (arith, there, length-take events bounds) in
      rw (arc_before bounds link front) (met link (omega (arith, there, length-take events bounds)) (or_left _ _ (lt-ltb link.place events front))))) in
      let first = horizon_times events (λ z. time z -ℤ time 0) s x xs in
      let second = horizon_times events (λ z. time z -ℤ time 0) s y ys in
      omega (arith, ints);
}

-- in a schedule of a network, two events are within the horizon of each other
pub network_near : {events : ℕ} {bounds : List Difference} → IsNetwork events bounds → {time : ℕ → ℤ} → IsSchedule bounds time → (x y : ℕ) → x ≤ events → y ≤ events
    → (time y -ℤ time x) ≤ℤ horizon
network_near network s = search (rules, ints)

-- where each link of a network that is looked at is relaxed, each is
pub all_relaxed : {events : ℕ} {bounds : List Difference} (time : ℕ → ℤ) → IsNetwork events bounds → AreLimited events bounds time → AreRelaxed bounds time
all_relaxed {events} {bounds} time network met = λ link there. by_test link there (int_lt (arc_of bounds link).weight horizon) refl
  where
    by_test : (link : Link) → link.place < length bounds → (b : Bool) → int_lt (arc_of bounds link).weight horizon ≡ b → IsRelaxed bounds time link
    by_test link there true is = met link there (or_right _ _ is)
    by_test link there false is =
        let (from, to) = link_among bounds link (among_events bounds refl network.named) there in
        let near = network.apart time met (arc_of bounds link).from (arc_of bounds link).to (omega (arith, from)) (omega (arith, to)) in
        let wide : horizon ≤ℤ (arc_of bounds link).weight = unlimited (arc_of bounds link).weight is in
        omega (arith, ints)
      where
        unlimited : (w : ℤ) → int_lt w horizon ≡ false → horizon ≤ℤ w
        unlimited w none = grind (arith, ints)

-- where more bounds are whole, no less is looked at
pub listed_more : {less more : ℕ} (bounds : List Difference) (link : Link) → less ≤ more → IsListed less bounds link → IsListed more bounds link
listed_more bounds link most listed = search rules

-- where no estimate is fresh, each link is relaxed
pub all_met : {whole : ℕ} {bounds : List Difference} {events : ℕ} (far : List ℤ) (fresh : List Bool) → events ≤ whole → IsNetwork events bounds → All (NamesAmong (events + 1)) bounds
    → IsRelaxedBut whole bounds far fresh → ((x : ℕ) → x < events + 1 → is_fresh fresh x ≡ false) → AreRelaxed bounds (times_of far)
all_met {whole} {bounds} {events} far fresh kept network named relaxed stale = all_relaxed (times_of far) network (λ link there listed.
    relaxed link there (listed_more bounds link kept listed) (stale (arc_of bounds link).from (link_among bounds link named there).0))

-- bounds of a plan and more bounds after them
pub network_of : {events : ℕ} (base extra : List Difference) → take events base ≡ horizon_bounds events → All (NamesEvents events) base → All (NamesEvents events) extra → IsNetwork events (base ++ extra)
network_of base extra begins base_named extra_named = search (rules, network_known, known_first, All-append)

-- and so do those before a place past the horizon bounds
pub network_before : {events place : ℕ} (bounds : List Difference) → events ≤ place → take events bounds ≡ horizon_bounds events → All (NamesEvents events) bounds → IsNetwork events (take place bounds)
network_before bounds past begins named = search (rules, network_known, take-take, All-take)

-- and so do all, with one more
pub network_more : {events : ℕ} {bounds : List Difference} {bound : Difference} → IsNetwork events bounds → NamesEvents events bound → IsNetwork events (bounds ++ bound ∷ [])
network_more network named = grind (arith, common_steps, All-push)

-- a network has no event later after another than the horizon, nor earlier
pub network_estimates : {bounds : List Difference} {events start : ℕ} {far : List ℤ} → far ≡ set (replicate (events + 1) horizon) start (pos 0) → start ≤ events
    → IsNetwork events bounds → AreEstimates bounds start far
network_estimates {bounds} {events} {start} {far} e within network =
    let old = replicate (events + 1) horizon in
    let old_long = length-replicate {A = ℤ} (events + 1) horizon in
    let long : length far ≡ events + 1 = ap length e ∙ length-set old start (pos 0) ∙ old_long in
    let there : start < length old = omega arith in
    let here : times_of far start ≡ pos 0 = ap (λ l. times_of l start) e ∙ get_or-set_same old start (pos 0) (pos 0) there in
    record {
      named = among_events bounds long network.named;
      start_named = omega arith;
      own = here;
      sound = λ time s x below. search (rules, ints, cases_eq, get_or-set_other, get_or-replicate, network_near);
      least = λ time s x below. (let near = network_near network s x start (omega arith) within in omega (arith, ints));
    }

-- estimates for bounds are estimates for more of them
pub estimates_more : {bounds more : List Difference} {start : ℕ} {far : List ℤ} → All (NamesAmong (length far)) more → ((time : ℕ → ℤ) → IsSchedule more time → IsSchedule bounds time)
    → AreEstimates bounds start far → AreEstimates more start far
estimates_more named back h = record {
  named = named;
  start_named = h.start_named;
  own = h.own;
  sound = λ time s. h.sound time (back time s);
  least = λ time s. h.least time (back time s);
}

-- a schedule, moved so that `start` stands at 0, is a floor of the estimates
pub floor_of : {bounds : List Difference} {start : ℕ} {far : List ℤ} {time : ℕ → ℤ} → AreEstimates bounds start far → IsSchedule bounds time
    → IsFloor bounds start far (λ x. time x -ℤ time start)
floor_of h s = search (rules, ints)

-- where each link is relaxed, the estimates are the distances
pub settled : {bounds : List Difference} {start : ℕ} {far : List ℤ} → AreEstimates bounds start far → AreRelaxed bounds (times_of far)
    → HasSchedule bounds × AreDistances bounds start far
settled {bounds} {far} h relaxed =
    let time : ℕ → ℤ = λ x. times_of far x -ℤ times_of far 0 in
    let s : IsSchedule bounds time = relaxed_schedule (times_of far) relaxed in (
      (time, s),
      record {
        named = h.named;
        start_named = h.start_named;
        tightest = λ x below. record { bound = λ other is. h.sound other is x below; attained = (time, s, (let own = h.own in omega (arith, ints))) };
      },
    )

-- one link further back
pub back_over : (bounds : List Difference) {start here from : ℕ} {weight sum : ℤ} → IsArcBetween bounds from here weight
    → ((low : ℕ → ℤ) → AreRelaxed bounds low → (low start -ℤ low here) ≤ℤ sum) → (low : ℕ → ℤ) → AreRelaxed bounds low → (low start -ℤ low from) ≤ℤ (sum +ℤ weight)
back_over bounds {here} {from} {weight} (link, there, is) kept low met =
    let step : low here ≤ℤ (low from +ℤ weight) = rw is at (met link there) in
    let so_far = kept low met in
    omega (arith, ints)

-- where all estimates are fresh, nothing is claimed
pub all_fresh : (whole : ℕ) (bounds : List Difference) (far : List ℤ) {fresh : List Bool} {count : ℕ} → fresh ≡ replicate count true → All (NamesAmong count) bounds
    → IsRelaxedBut whole bounds far fresh
all_fresh whole bounds far is named = search (rules, get_or-replicate)

-- over the distances each link is met
pub distances_relaxed : {bounds : List Difference} {start : ℕ} {far : List ℤ} → AreDistances bounds start far → AreRelaxed bounds (times_of far)
distances_relaxed {bounds} {start} {far} d = λ link there.
    let ends = link_among bounds link d.named there in
    link_reaches bounds start link (times_of far (arc_of bounds link).from) (times_of far (arc_of bounds link).to) there (d.tightest (arc_of bounds link).from ends.0) (d.tightest (arc_of bounds link).to ends.1)

-- and they differ as some schedule does
pub distances_taken : {bounds : List Difference} {start : ℕ} {far : List ℤ} {from to : ℕ} → AreDistances bounds start far
    → CanBeApart bounds from to (times_of far to -ℤ times_of far from)
distances_taken {bounds} {start} {far} d = (
  λ x. times_of far x -ℤ times_of far 0,
  relaxed_schedule (times_of far) (distances_relaxed d),
  omega (arith, ints),
)

-- with one bound more, whose events have fresh estimates then, the other links are still met
pub relaxed_push : (whole : ℕ) (bounds : List Difference) (bound : Difference) (far : List ℤ) (fresh : List Bool) → bound.from < length fresh → bound.to < length fresh
    → IsRelaxedBut whole bounds far fresh → IsRelaxedBut whole (bounds ++ bound ∷ []) far (set (set fresh bound.from true) bound.to true)
relaxed_push whole bounds bound far fresh from to before = search (rules, length-set, stale_before, cases_lt, arc_longer, get_or_push, length-append)
