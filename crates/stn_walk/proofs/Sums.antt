-- The sums of the first links, and the greatest of some times.
use Rattle.std.{proofs.{lemmas.{Grind.common_steps, Int.ints, List.{take_more, FromFn.map-range_with_len_more}}, Common.{rules, ◌≡◌, ℕ, ℤ, ◌+◌, ◌<◌, ◌≤◌, List, [], ◌∷◌, ◌++◌, map, length, take, get_or, All, arith}}, specs.{Prelude.{max, ◌+ℤ◌, unsigned_abs}, List.range_with_len}}
use Rattle.stn_net.specs.Difference.{Difference}
use Rattle.stn_conflict.specs.{declared.links.Link.Link, Arcs.{arc_of, weight_of}}
use Rattle.stn_walk.specs.Walk.{greatest, sum_of}

-- the greatest of one time more
greatest_push : (far : ℤ → ℕ) (times : List ℤ) (time : ℤ) → greatest far (times ++ time ∷ []) ≡ max (greatest far times) (far time)
greatest_push far [] time = omega arith
greatest_push far (first ∷ times) time = omega (arith, greatest_push far times time)

pub greatest_more : (far : ℤ → ℕ) (times : List ℤ) (place seen : ℕ) (time : ℤ) → place < length times → time ≡ get_or times place time → seen ≡ greatest far (take place times)
    → max seen (far time) ≡ greatest far (take (place + 1) times)
greatest_more far times place seen time within is was = cc (greatest_push far (take place times) time, take_more times place time within)

weight_push : (bounds : List Difference) (links : List Link) (link : Link) → weight_of bounds (links ++ link ∷ []) ≡ weight_of bounds links +ℤ (arc_of bounds link).weight
weight_push bounds [] link = omega (arith, ints)
weight_push bounds (first ∷ links) link = omega (arith, ints, weight_push bounds links link)

-- the sum of one link more
pub sum_more : (bounds : List Difference) (links : List Link) (place : ℕ) (link : Link) → place < length links → link ≡ get_or links place link
    → sum_of bounds links (place + 1) ≡ sum_of bounds links place +ℤ (arc_of bounds link).weight
sum_more bounds links place link within is = cc (take_more links place link within, weight_push bounds (take place links) link)

-- one value more
pub values_grown : {x : ℤ} (f : ℕ → ℤ) (n more : ℕ) (old new : List ℤ) → new ≡ old ++ x ∷ [] → old ≡ map f (range_with_len 0 n) → x ≡ f n → more ≡ n + 1
    → new ≡ map f (range_with_len 0 more)
values_grown f n more old new grown was is counted = search (rules, map-range_with_len_more)

pub all_grown : {x : ℤ} (P : ℤ → Type 0) (old new : List ℤ) → new ≡ old ++ x ∷ [] → All P old → P x → All P new
all_grown {x} P old new grown before last = grind (arith, common_steps)

-- the sum with one link more
pub sum_step : (bounds : List Difference) (links : List Link) (place : ℕ) (link : Link) (sum weight next : ℤ) → place < length links → link ≡ get_or links place link
    → sum ≡ sum_of bounds links place → weight ≡ (arc_of bounds link).weight → next ≡ sum +ℤ weight → next ≡ sum_of bounds links (place + 1)
sum_step bounds links place link sum weight next within is one other total = search (rules, sum_more)

pub abs_add : (a b : ℤ) → unsigned_abs (a +ℤ b) ≤ unsigned_abs a + unsigned_abs b
abs_add a b = omega (arith, ints)
