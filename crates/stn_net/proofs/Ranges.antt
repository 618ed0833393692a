-- How far two events can be apart: every time between two such times is one.
use Rattle.std.{proofs.{Common.{rules, ◌≡◌, ◌↔◌, ℕ, ℤ, ◌+ℤ◌, ◌-ℤ◌, ◌≤ℤ◌, neg_ℤ, List, refl, arith}, lemmas.Int.{ints, clamps}}, specs.Int.int_min}
use Rattle.stn_net.specs.{Difference.Difference, Schedule.{Meets, HasSchedule}, Matrix.Tightest.IsTightest, Ranges.{CanBeApart, IsRange}}

-- of all times between two there is one pair, where there is any time
pub one_pair : (P : ℤ → Type 0) (some least greatest first last : ℤ) → P some → ((time : ℤ) → P time ↔ ((least ≤ℤ time) × (time ≤ℤ greatest)))
    → ((time : ℤ) → P time ↔ ((first ≤ℤ time) × (time ≤ℤ last))) → (least ≡ first) × (greatest ≡ last)
one_pair P some least greatest first last is these those = search (rules)

-- a range has one pair of ends, where there is a schedule
pub one_range : (bounds : List Difference) (from to : ℕ) (least greatest first last : ℤ) → HasSchedule bounds
    → IsRange bounds from to least greatest → IsRange bounds from to first last → (least ≡ first) × (greatest ≡ last)
one_range bounds from to least greatest first last possible = one_pair (CanBeApart bounds from to) _ least greatest first last (possible.0, possible.1, refl)

-- the earlier of two times of each event, both lists of times moved
abbrev earlier : (ℕ → ℤ) → (ℕ → ℤ) → ℤ → ℤ → ℕ → ℤ
earlier a b p q z = int_min (a z -ℤ p) (b z +ℤ q)

-- meets each bound that both meet, also when all are moved
earlier_meets : (a b : ℕ → ℤ) (p q r : ℤ) (bound : Difference) → Meets a bound → Meets b bound → Meets (λ z. earlier a b p q z -ℤ r) bound
earlier_meets a b p q r bound first second = omega (arith, ints, clamps)

-- the ends of the range of two events: how long the first can come after the second at the most, with the sign changed, and how
-- long the second after the first
pub range_of_ends : (bounds : List Difference) (from to : ℕ) (back far : ℤ) → IsTightest bounds to from back → IsTightest bounds from to far
    → IsRange bounds from to (neg_ℤ back) far
range_of_ends bounds from to back far early late = λ apart. (
  (λ s.
      let takes = s.2 in
      let least = early.bound s.0 s.1 in
      let most = late.bound s.0 s.1 in
      (omega (arith, ints), omega (arith, ints))),
  (λ ends.
      let (a, a_is, a_at) = late.attained in
      let (b, b_is, b_at) = early.attained in
      let (after, before) = ends in
      let origin : ℤ = earlier a b (a from) (apart -ℤ b to) 0 in (
        λ z. earlier a b (a from) (apart -ℤ b to) z -ℤ origin,
        record {
          origin = omega (arith, ints);
          met = λ k d h. earlier_meets a b (a from) (apart -ℤ b to) origin _ (a_is.met k d h) (b_is.met k d h);
        },
        omega (arith, ints, clamps),
      )),
)
