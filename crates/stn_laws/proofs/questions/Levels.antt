-- Where there are tightest differences along which chains lead, each event has its level and its way.
use Rattle.std.{proofs.{lemmas.{Grind.common_steps, Bool.{cases_lt, cases_eq}, Int.ints, List.length_push}, Common.{rules, ◌≡◌, inl, inr, ℕ, zero, suc, ◌+◌, ◌<◌, ◌≤◌, List, [], ◌∷◌, ◌++◌, length, refl, sym, subst, ap, ◌∙◌, arith}}, specs.{Prelude.{ℤ, ◌+ℤ◌, ◌≤ℤ◌}, List.AllByRecursion}}
use Rattle.stn_time.proofs.Each.{each_parted, each_pushed}
use Rattle.stn_net.specs.Difference.{Difference, NamesEvents}
use Rattle.stn_matrix.proofs.Told.{Told, both_told, told_as, same_told, least_below}
use Rattle.stn_conflict.{specs.{declared.links.{Link.Link, Side.Side}, Arcs.{arc, arc_of, IsChain, weight_of}, Named.{IsTight, IsTightChain, IsLevel, IsLevelStep, IsFirstStep, IsWay}}, proofs.{Tightness.{link_reaches, tight_from_sum, sum_from_tight}, Chains.{chain-push, chain-unpush, last_of}, OneCycle.level_unique, Steps.rank_within}}
use Rattle.stn_laws.proofs.questions.{Found.{AreFound, tightest_found}, Chosen.{first_below, first_of_some}}

-- the ends of a side of a bound are its events
pub ends_within : (events : ℕ) (bound : Difference) (side : Side) → NamesEvents events bound → ((arc bound side).from ≤ events) × ((arc bound side).to ≤ events)
ends_within events bound side named = search rules

module _ {bounds : List Difference} {events : ℕ} {far : ℕ → ℕ → ℤ} (found : AreFound bounds events far) (start : ℕ) (start_within : start ≤ events) where
  link_within : (link : Link) → link.place < length bounds → ((arc_of bounds link).from ≤ events) × ((arc_of bounds link).to ≤ events)
  link_within link there = search (rules)

  -- ---- a chain that weighs the tightest difference is one of tight links
  reaches : (link : Link) → link.place < length bounds → far start (arc_of bounds link).to ≤ℤ (far start (arc_of bounds link).from +ℤ (arc_of bounds link).weight)
  reaches link there =
      let (from, to) = link_within link there in
      link_reaches bounds start link _ _ there (tightest_found found start _ start_within from) (tightest_found found start _ start_within to)

  chain_reaches : (links : List Link) (x y : ℕ) → IsChain bounds links x y → far start y ≤ℤ (far start x +ℤ weight_of bounds links)
  chain_reaches [] x y chain = search rules
  chain_reaches (link ∷ links) x y (there, from, rest) = omega (arith, ints, reaches link there, chain_reaches links _ y rest, ap (far start) from)

  tight_along : (links : List Link) (x y : ℕ) → IsChain bounds links x y → far start y ≡ far start x +ℤ weight_of bounds links → AllByRecursion (IsTight bounds start) links
  tight_along [] x y chain e = tt
  tight_along (link ∷ links) x y (there, from, rest) e =
      let (begin, end) = link_within link there in
      let here = ap (far start) from in
      let most = reaches link there in
      let others = chain_reaches links _ y rest in
      let sum : far start (arc_of bounds link).from +ℤ (arc_of bounds link).weight ≡ far start (arc_of bounds link).to = omega (arith, ints) in
      let onward : far start y ≡ far start (arc_of bounds link).to +ℤ weight_of bounds links = omega (arith, ints) in (
        tight_from_sum bounds start link _ _ there (tightest_found found start _ start_within begin) (tightest_found found start _ start_within end) sum,
        tight_along links _ y rest onward,
      )

  some_tight_chain : (x : ℕ) → x ≤ events → (links : List Link) × IsTightChain bounds start x links
  some_tight_chain x within =
      let (links, chain, weighs) = found.along start x start_within within in
      let itself = found.closed.shortest.itself start start_within in
      search (rules, tight_along, ints)

  -- a chain of no links is at its start
  none_long : (links : List Link) (x : ℕ) → IsChain bounds links start x → length links ≡ 0 → start ≡ x
  none_long links x chain long = grind (arith, common_steps)

  -- ---- whether a link is tight can be told, and so can levels
  tight_told : (link : Link) → Told (IsTight bounds start link)
  tight_told link =
      elim (cases_lt _ _) [
        | inr past ↦ inr (λ tight. omega (arith, tight.there))
        | inl there ↦
            let (begin, end) = link_within link there in
            let near = tightest_found found start _ start_within begin in
            let last = tightest_found found start _ start_within end in
            elim (same_told _ _) [
              | inl e ↦ inl (tight_from_sum _ start link _ _ there near last e)
              | inr differs ↦ inr (λ tight. differs (sum_from_tight _ start link _ _ near last tight))
            ]
      ]

  number_told : (a b : ℕ) → Told (a ≡ b)
  number_told a b = search rules

  abbrev HasChain : ℕ → ℕ → Type 0
  HasChain n x = (links : List Link) × IsTightChain bounds start x links × (length links ≡ n)

  -- a tight link to x, to whose beginning a chain of so many tight links leads
  record IsLast (n x : ℕ) (link : Link) : Type 0 where
    tight : IsTight bounds start link
    ends : (arc_of bounds link).to ≡ x
    before : HasChain n (arc_of bounds link).from

  push : (n x : ℕ) (link : Link) → IsLast n x link → HasChain (suc n) x
  push n x link last =
      let (links, chain, long) = last.before in (
        links ++ link ∷ [],
        record {
          chain = subst (λ z. IsChain bounds (links ++ link ∷ []) start z) last.ends (chain-push _ links link start _ chain.chain last.tight.there refl);
          tight = each_pushed _ links link chain.tight last.tight;
        },
        omega (arith, length_push links link),
      )

  unpush : (n x : ℕ) → HasChain (suc n) x → (link : Link) × IsLast n x link
  unpush n x ([], chain, long) = absurd (omega (arith, long))
  unpush n x (first ∷ rest, chain, long) =
      let (init, last, e) = last_of first rest in
      let parts = chain-unpush _ init last start x (subst (λ l. IsChain bounds l start x) e chain.chain) in
      let (others, tight) = each_parted _ init _ (subst (AllByRecursion (IsTight bounds start)) e chain.tight) in
      (last, record { tight = tight.0; ends = parts.ends; before = (init, record { chain = parts.before; tight = others }, omega (arith, long, ap length e, length_push init last)) })

  chain_told : (n x : ℕ) → Told (HasChain n x)
  chain_told zero x = let either = cases_eq start x in search (rules, none_long)
  chain_told (suc n) x =
      let told : (link : Link) → Told (IsLast n x link) = λ link.
      told_as _ _
      (λ parts. record { tight = parts.0; ends = parts.1.0; before = parts.1.1 }) (λ last. (last.tight, (last.ends, last.before)))
      (both_told (IsTight bounds start link) _ (tight_told link) (both_told ((arc_of bounds link).to ≡ x) _ (number_told _ x) (chain_told n (arc_of bounds link).from))) in
      elim (first_below _ told _) [
        | inl (link, last, first) ↦ inl (push n x link last)
        | inr none ↦ inr (λ chain. let (link, last) = unpush n x chain in none link (rank_within _ link last.tight.there) last)
      ]

  pub some_level : (x : ℕ) → x ≤ events → (level : ℕ) × IsLevel bounds start x level
  some_level x within =
      let (links, chain) = some_tight_chain x within in
      elim (least_below (λ n. HasChain n x) (λ n. chain_told n x) (length links + 1)) [
        | inr none ↦ absurd (none (length links) (omega arith) (links, chain, refl))
        | inl (level, reached, none) ↦ (
          level,
          record {
            reached = reached;
            least = λ others other. elim (cases_lt _ level) [
              | inl below ↦ absurd (none (length others) below (others, other, refl))
              | inr past ↦ past
            ];
          },
        )
      ]

  -- ---- steps
  step_told : (link : Link) → Told (IsLevelStep bounds start link)
  step_told link =
      elim (tight_told link) [
        | inr loose ↦ inr (λ step. loose step.tight)
        | inl tight ↦
            let (begin, end) = link_within link tight.there in
            let (low, low_is) = some_level _ begin in
            let (high, high_is) = some_level _ end in
            elim (cases_eq high _) [
              | inl e ↦ inl (record { tight = tight; level = (low, low_is, subst (IsLevel bounds start (arc_of bounds link).to) e high_is) })
              | inr differs ↦ inr (λ step.
                  let (level, from, to) = step.level in
                  let same = level_unique _ start _ level low from low_is in
                  let next = level_unique _ start _ _ high to high_is in
                  differs (sym next ∙ ap suc same))
            ]
      ]

  -- a step to the event
  abbrev LeadsTo : ℕ → Link → Type 0
  LeadsTo x link = IsLevelStep bounds start link × ((arc_of bounds link).to ≡ x)

  some_step : (level x : ℕ) → IsLevel bounds start x (suc level) → (link : Link) × LeadsTo x link
  some_step level x is =
      let (link, last) = unpush level x is.reached in
      let before = last.before in
      let (begin, end) = link_within link last.tight.there in
      let (low, low_is) = some_level _ begin in
      let few = low_is.least before.0 before.1 in
      let (links, chain, long) = push low x link (record { tight = last.tight; ends = last.ends; before = low_is.reached }) in
      let many = is.least links chain in
      search rules

  way_by_level : (level x : ℕ) → IsLevel bounds start x level → (links : List Link) × IsWay bounds start x links
  way_by_level zero x is = search (rules, none_long)
  way_by_level (suc level) x is =
      let some = some_step level x is in
      let told : (link : Link) → Told (LeadsTo x link) = search (rules, both_told, step_told, number_told) in
      let (link, (step, ends), none) = first_of_some _ told _ some.1 in
      let (low, from, to) = step.level in
      let same : suc low ≡ suc level = search rules in
      let lower : low ≡ level = omega (arith, same) in
      let (links, way) = way_by_level level _ (subst (IsLevel bounds start (arc_of bounds link).from) lower from) in
      let first : IsFirstStep bounds start link = search rules in (
        links ++ link ∷ [],
        record {
          chain = subst (λ z. IsChain bounds (links ++ link ∷ []) start z) ends (chain-push _ links link start _ way.chain step.tight.there refl);
          first = each_pushed _ links link way.first first;
        },
      )

  -- each event has its way
  pub some_way : (x : ℕ) → x ≤ events → (links : List Link) × IsWay bounds start x links
  some_way x within = let (level, is) = some_level x within in way_by_level level x is
