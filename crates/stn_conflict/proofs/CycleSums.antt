use Rattle.std.{proofs.{Common.{rules, ◌≡◌, ℕ, ◌<◌, ◌≤◌, List, [], ◌∷◌, ◌++◌, length, take, refl, sym, ap, ◌∙◌, arith}, lemmas.{Int.ints, List.{take_more, Elements.All-from_recursion}}}, specs.{Prelude.{ℤ, pos, neg_ℤ, ◌*ℤ◌, ◌+ℤ◌, ◌-ℤ◌, ◌≤ℤ◌, ◌<ℤ◌}, List.AllByRecursion}}
use Rattle.stn_time.specs.Time.{horizon, IsWithinHorizon}
use Rattle.stn_net.{specs.{Difference.Difference, Schedule.{IsSchedule, HasSchedule}, Matrix.Tightest.IsTightest}, proofs.Tightest.tightest_unique}
use Rattle.stn_conflict.{specs.{declared.links.{Link.Link, Side.{Side, TheVariants.{Upper, Lower}}}, Arcs.{arc, arc_of, bound_at, IsChain, weight_of, IsNegativeCycle}, Culprit.IsRefusedSide, Named.{IsWay, IsWayOf, IsNamedCycle}, Search.IsCycleOf}, proofs.{Tightness.{tightest_self, link_kept}, Between.refused_lower, OneCycle.way_unique, Chains.{way_is_tight, weight_of_tight, chain_before}}}

-- a refused side and the way back from its end to its beginning have a negative sum
refused_negative : {bounds : List Difference} (bound : Difference) (side : Side) {far : ℤ} → bound.lo ≤ℤ bound.hi → ¬ HasSchedule (bounds ++ bound ∷ []) → IsRefusedSide bounds bound side → IsTightest bounds (arc bound side).to (arc bound side).from far → ((arc bound side).weight +ℤ far) <ℤ pos 0
refused_negative bound Upper ordered refused (m, is, below) back = search (rules, ints)
refused_negative {bounds} bound Lower {far} ordered refused (m, is, above) back =
    let negative = refused_lower ordered refused back is above in
    omega (arith, ints)

-- what a way weighs is the tightest difference from its start
pub weight_of_way : (bounds : List Difference) (start x : ℕ) (links : List Link) (self far : ℤ) → IsTightest bounds start start self → IsTightest bounds start x far → IsWay bounds start x links → weight_of bounds links ≡ far
weight_of_way bounds start x links self far here there way =
    let chain = way_is_tight way in
    let whole = weight_of_tight links here chain.chain chain.tight in
    let e = tightest_unique bounds start x _ far whole there in
    omega (arith, ints, e, tightest_self here)

-- the links of a chain are links of the bounds
pub places_of_chain : (bounds : List Difference) (links : List Link) (x y : ℕ) → IsChain bounds links x y → AllByRecursion (λ (l : Link). l.place < length bounds) links
places_of_chain bounds [] x y chain = tt
places_of_chain bounds (link ∷ links) x y chain = (chain.0, places_of_chain bounds links _ y chain.2)

module _ (bounds : List Difference) (link : Link) (links : List Link) (self far : ℤ) (ordered : (bound_at bounds link.place).lo ≤ℤ (bound_at bounds link.place).hi)
    (here : IsTightest (take link.place bounds) (arc_of bounds link).to (arc_of bounds link).to self) (there : IsTightest (take link.place bounds) (arc_of bounds link).to (arc_of bounds link).from far)
    (named : IsNamedCycle bounds (link ∷ links)) where
  way_on : IsChain bounds links (arc_of bounds link).to (arc_of bounds link).from × (weight_of (take link.place bounds) links ≡ weight_of bounds links)
  way_on = chain_before bounds link.place links _ _ named.1.chain

  -- what a named cycle weighs: the culprit's link and the tightest difference back
  weight_of_named : weight_of bounds (link ∷ links) ≡ (arc_of bounds link).weight +ℤ far
  weight_of_named =
      let e = weight_of_way (take link.place bounds) (arc_of bounds link).to (arc_of bounds link).from links self far here there named.1 in
      ap (λ n. (arc_of bounds link).weight +ℤ n) (sym way_on.1 ∙ e)

  -- it is a negative cycle
  pub named_negative : IsNegativeCycle bounds (link ∷ links)
  named_negative =
      let refused = λ (has : HasSchedule (take link.place bounds ++ bound_at bounds link.place ∷ [])). named.0.refused (rw (take_more bounds link.place (record { from = 0; to = 0; lo = pos 0; hi = pos 0 }) named.0.there) has) in
      record {
        some = search rules;
        closed = ((arc_of bounds link).from, (named.0.there, refl, way_on.0));
        negative = rw weight_of_named (refused_negative (bound_at bounds link.place) link.side ordered refused named.0.side there);
      }

  -- with all that is told of it
  pub cycle_of_way : {events : ℕ} {sum : ℤ} → neg_ℤ (pos 2 *ℤ horizon) ≤ℤ sum → length links ≤ events → sum ≡ (arc_of bounds link).weight +ℤ far → IsCycleOf bounds events (link ∷ links) sum
  cycle_of_way least short total = record {
    named = named;
    negative = named_negative;
    sum_is = total ∙ sym weight_of_named;
    least = least;
    places = All-from_recursion (λ l. l.place < length bounds) (link ∷ links) (named.0.there, places_of_chain bounds links _ _ way_on.0);
    short = omega (arith, short);
  }

-- over a chain a schedule grows by its weight at most
chain_kept : {bounds : List Difference} (links : List Link) (x y : ℕ) {time : ℕ → ℤ} → IsSchedule bounds time → IsChain bounds links x y → (time y -ℤ time x) ≤ℤ weight_of bounds links
chain_kept [] x y is chain = search rules
chain_kept {bounds} (link ∷ links) x y {time} is (there, from, rest) =
    let e = ap time from in
    omega (arith, ints, link_kept link there is, chain_kept links _ y is rest)

-- bounds with a negative cycle have no schedule
pub negative_no_schedule : (bounds : List Difference) (links : List Link) → IsNegativeCycle bounds links → ¬ HasSchedule bounds
negative_no_schedule bounds links cycle (time, is) =
    let (x, chain) = cycle.closed in
    omega (arith, ints, cycle.negative, chain_kept links x x is chain)

-- a way, with all that is told of it
pub told_of_way : {bounds : List Difference} {start x count : ℕ} {links : List Link} {self far sum : ℤ} → sum ≡ far → IsWithinHorizon sum → IsTightest bounds start start self
    → IsTightest bounds start x far → IsWay bounds start x links → length links < count → IsWayOf bounds start x count links sum
told_of_way {bounds} {start} {x} {links} {self} {far} is within here there way short = record {
  way = way;
  sum_is = is ∙ sym (weight_of_way bounds start x links self far here there way);
  tightest = rw is there;
  within = within;
  places = All-from_recursion (λ l. l.place < length bounds) links (places_of_chain bounds links _ _ way.chain);
  short = short;
  empty = λ same. ap length (way_unique bounds start x links [] way (record { chain = same; first = tt }));
}
