use Rattle.std.{proofs.{Common.{rules, ◌≡◌, ◌⊎◌, inl, inr, ℕ, zero, suc, ◌+◌, ◌<◌, ◌≤◌, Option, Some, None, List, [], ◌∷◌, ◌++◌, length, subst, ap, refl, ◌∙◌, arith}, lemmas.{Int.{ints, by_lt_z}, List.length_push}}, specs.{Prelude.{ℤ, pos, ◌+ℤ◌}, List.AllByRecursion}}
use Rattle.stn_time.proofs.Each.{each_pushed}
use Rattle.stn_net.specs.{Difference.Difference, Schedule.times_of}
use Rattle.stn_conflict.{specs.{declared.links.Link.Link, Arcs.{arc_of, IsChain}, Relaxation.{AreDistances, AreRelaxed}, Named.{IsTight, IsTightChain, IsLevel}}, proofs.{Tightness.{tightest_self, link_reaches, link_among, tight_from_sum, relaxed_schedule}, Chains.chain-push}}

pub some_or_none : (o : Option ℕ) → (o ≡ None) ⊎ ((k : ℕ) × (o ≡ Some k))
some_or_none None = inl refl
some_or_none (Some k) = inr (k, refl)

pub some_same : (o : Option ℕ) (i k : ℕ) → o ≡ Some i → o ≡ Some k → i ≡ k
some_same o i k p q = cc

-- the levels of a search that has come to its end: each tight link from a level has been followed
pub record IsClosed (bounds : List Difference) (start : ℕ) (levels : ℕ → Option ℕ) : Type 0 where
  pub zero_at_start : levels start ≡ Some 0
  pub only : (x : ℕ) → levels x ≡ Some 0 → x ≡ start
  pub back : (x i : ℕ) → levels x ≡ Some (suc i)
      → (link : Link) × IsTight bounds start link × ((arc_of bounds link).to ≡ x) × (levels (arc_of bounds link).from ≡ Some i)
  pub on : (link : Link) → IsTight bounds start link → (i : ℕ) → levels (arc_of bounds link).from ≡ Some i
      → (k : ℕ) × (levels (arc_of bounds link).to ≡ Some k) × (k ≤ suc i)

-- tight links lead from a level to one that is higher by their number at most
pub level_along : {bounds : List Difference} {start : ℕ} {levels : ℕ → Option ℕ} (closed : IsClosed bounds start levels) (links : List Link) {x y i : ℕ} → IsChain bounds links x y → AllByRecursion (IsTight bounds start) links → levels x ≡ Some i → (k : ℕ) × (levels y ≡ Some k) × (k ≤ i + length links)
level_along {levels} closed [] {i} chain tight at = (i, subst (λ z. levels z ≡ Some i) chain at, omega arith)
level_along {bounds} {start} {levels} closed (link ∷ links) {y} {i} (placed, from, rest) (tight, others) at =
    let (k, k_at, k_le) = closed.on link tight i (ap levels from ∙ at) in
    let (m, m_at, m_le) = level_along closed links rest others k_at in
    (m, m_at, omega arith)

-- to an event with a level leads a chain of so many tight links
pub chain_to_level : {bounds : List Difference} {start : ℕ} {levels : ℕ → Option ℕ} (closed : IsClosed bounds start levels) (level : ℕ) {x : ℕ} → levels x ≡ Some level → (links : List Link) × IsTightChain bounds start x links × (length links ≡ level)
chain_to_level closed zero at = search rules
chain_to_level {bounds} {start} {levels} closed (suc level) {x} at =
    let (link, tight, ends, from) = closed.back x level at in
    let (links, chain, long) = chain_to_level closed level from in (
      links ++ link ∷ [],
      record {
        chain = rw ends at (chain-push bounds links link start _ chain.chain tight.there refl);
        tight = each_pushed (IsTight bounds start) links link chain.tight tight;
      },
      omega (arith, length_push links link),
    )

-- an entry of a closed table is the event's level
pub level_of_entry : {bounds : List Difference} {start : ℕ} {levels : ℕ → Option ℕ} (closed : IsClosed bounds start levels) {x level : ℕ} → levels x ≡ Some level → IsLevel bounds start x level
level_of_entry {bounds} {start} {levels} closed {x} {level} at = record {
  reached = chain_to_level closed level at;
  least = λ links chain.
      let (k, k_at, k_le) = level_along closed links chain.chain chain.tight closed.zero_at_start in
      omega (arith, some_same (levels x) k level k_at at);
}

-- an event's level is its entry in a closed table
pub entry_of_level : {bounds : List Difference} {start : ℕ} {levels : ℕ → Option ℕ} (closed : IsClosed bounds start levels) {x level : ℕ} → IsLevel bounds start x level → levels x ≡ Some level
entry_of_level {bounds} {start} {levels} closed {x} {level} is =
    let (links, chain, long) = is.reached in
    let (k, k_at, k_le) = level_along closed links chain.chain chain.tight closed.zero_at_start in
    let here = chain_to_level closed k k_at in
    let e : k ≡ level = omega (arith, is.least here.0 here.1, here.2) in
    k_at ∙ ap Some e

-- one more for an event without a level
abbrev raise : Option ℕ → ℤ
raise None = pos 1
raise (Some k) = pos 0

-- the tightest differences from the start, one more at each event without a level
abbrev raised : List ℤ → (ℕ → Option ℕ) → ℕ → ℤ
raised far levels x = times_of far x +ℤ raise (levels x)

-- the raised differences keep to each link: one that is not tight has room for one more
raised_relaxed : {bounds : List Difference} {far : List ℤ} {start : ℕ} {levels : ℕ → Option ℕ} → AreDistances bounds start far → IsClosed bounds start levels → AreRelaxed bounds (raised far levels)
raised_relaxed {bounds} {far} {start} {levels} exact closed = λ link there.
    let named = link_among bounds link exact.named there in
    let near = exact.tightest _ named.0 in
    let end = exact.tightest _ named.1 in
    let reaches = link_reaches bounds start link _ _ there near end in
    elim (some_or_none (levels (arc_of bounds link).to)) [
      | inr (k, e) ↦ elim (some_or_none (levels (arc_of bounds link).from)) [
        | inl f ↦ omega (arith, ints, ap raise e, ap raise f)
        | inr (i, f) ↦ omega (arith, ints, ap raise e, ap raise f)
      ]
      | inl e ↦ elim (some_or_none (levels (arc_of bounds link).from)) [
        | inl f ↦ omega (arith, ints, ap raise e, ap raise f)
        | inr (i, f) ↦
            by_lt_z (times_of far (arc_of bounds link).to) (times_of far (arc_of bounds link).from +ℤ (arc_of bounds link).weight) (λ room. omega (arith, ints, ap raise e, ap raise f))
            (λ none. absurd (let (k, k_at, k_le) = closed.on link (tight_from_sum bounds start link _ _ there near end (omega (arith, ints))) i f in cc))
      ]
    ]

-- where the search has come to its end, each event has a level
pub level_of_event : (bounds : List Difference) (far : List ℤ) (start : ℕ) (levels : ℕ → Option ℕ) → AreDistances bounds start far → IsClosed bounds start levels → (x : ℕ) → x < length far → (level : ℕ) × (levels x ≡ Some level)
level_of_event bounds far start levels exact closed x x_within =
    elim (some_or_none (levels x)) [
      | inr found ↦ found
      | inl none ↦
          let most = exact.tightest x x_within in
          let self = tightest_self (exact.tightest start exact.start_named) in
          let passed = most.bound _ (relaxed_schedule (raised far levels) (raised_relaxed exact closed)) in
          absurd (omega (arith, ints, ap raise none, ap raise closed.zero_at_start))
    ]
