-- One list says which events are ready.
use Rattle.std.{proofs.{Common.{rules, ◌≡◌, ℕ, ℤ, zero, suc, ◌+◌, ◌<◌, Bool, true, false, cond, eqb, List, [], ◌∷◌, length, get_or, All, Some, refl, sym, ap, subst, arith, ⊎_elim}, lemmas.{Bool.{cases_lt, eq-eqb, Decides.nat_tests}, Int.ints, List.{Elements.All-tail, Sums.sum_by-cons}}}, specs.List.AllPairs}
use Rattle.stn_net.specs.{Difference.Difference, Windows.Dispatch.AreReadyTimes}
use Rattle.stn_questions.{specs.{declared.ready_event.ReadyEvent.ReadyEvent, Ready.{IsBefore, AreReadyEvents}}, proofs.ReadyLists.{counted, HasTimes}}
use Rattle.stn_laws.proofs.One.{IsOne}

abbrev one_or_none : Bool → ℕ
one_or_none same = cond same 1 0

-- an event in the list counts
head_counts : (one : ReadyEvent) (ready : List ReadyEvent) (event : ℕ) → counted (one ∷ ready) event ≡ cond (eqb one.event event) 1 0 + counted ready event
head_counts one ready event = search (rules, sum_by-cons)

-- an event that counts stands somewhere in the list
pub stands : (ready : List ReadyEvent) (event : ℕ) → 0 < counted ready event → (place : ℕ) × (place < length ready) × ((d : ReadyEvent) → (get_or ready place d).event ≡ event)
stands [] event some = absurd (omega arith)
stands (one ∷ ready) event some = by (eqb one.event event) refl (λ later. stands ready event later)
  where
    by : (same : Bool) → eqb one.event event ≡ same
        → (0 < counted ready event → (place : ℕ) × (place < length ready) × ((d : ReadyEvent) → (get_or ready place d).event ≡ event))
        → (place : ℕ) × (place < length (one ∷ ready)) × ((d : ReadyEvent) → (get_or (one ∷ ready) place d).event ≡ event)
    by true is behind = (0, omega arith, λ d. grind (arith, nat_tests))
    by false is behind =
        let later = behind (omega (arith, head_counts one ready event, ap one_or_none is)) in
        (suc later.0, omega (arith, later.1), λ d. later.2 d)

-- the first comes before each
pub first_before : (one : ReadyEvent) (ready : List ReadyEvent) (place : ℕ) (d : ReadyEvent) → AllPairs IsBefore (one ∷ ready) → place < length (one ∷ ready) → IsBefore one (get_or (one ∷ ready) place d)
first_before one ready zero d order within = omega (arith, ints)
first_before one ready (suc place) d order within = order 0 (suc place) d (omega arith) within

module _ (bounds : List Difference) (done : List Bool) (now : ℤ) where
  -- an event has one pair of ends
  same_ends : (event : ℕ) (a b c d : ℤ) → AreReadyTimes bounds done now event (Some (a, b)) → AreReadyTimes bounds done now event (Some (c, d)) → (a ≡ c) × (b ≡ d)
  same_ends event a b c d p q = search rules

  same_event : (x y : ReadyEvent) → HasTimes bounds done now x → HasTimes bounds done now y → x.event ≡ y.event → x ≡ y
  same_event x y p q e = let ends = same_ends _ _ _ _ _ (subst (λ n. AreReadyTimes bounds done now n (Some (x.first, x.last))) e p) q in search rules

  -- of two lists with the same events the first is the same
  same_first : (x y : ReadyEvent) (xs ys : List ReadyEvent) → All (HasTimes bounds done now) (x ∷ xs) → All (HasTimes bounds done now) (y ∷ ys)
      → AllPairs IsBefore (x ∷ xs) → AllPairs IsBefore (y ∷ ys) → ((event : ℕ) → counted (x ∷ xs) event ≡ counted (y ∷ ys) event) → x ≡ y
  same_first x y xs ys timed other_timed order other_order same =
      let p : HasTimes bounds done now x = timed 0 x (omega arith) in
      let q : HasTimes bounds done now y = other_timed 0 y (omega arith) in
      let there = stands (y ∷ ys) x.event (omega (arith, same x.event, head_counts x xs x.event, ap one_or_none (eq-eqb x.event x.event refl))) in
      let back = stands (x ∷ xs) y.event (omega (arith, same y.event, head_counts y ys y.event, ap one_or_none (eq-eqb y.event y.event refl))) in
      let u = get_or (y ∷ ys) there.0 y in
      let v = get_or (x ∷ xs) back.0 x in
      let at_u : u ≡ x = same_event u x (other_timed there.0 y there.1) p (there.2 y) in
      let at_v : v ≡ y = same_event v y (timed back.0 x back.1) q (back.2 x) in
      let forth : IsBefore x y = search (rules, first_before) in
      let behind : IsBefore y x = search (rules, first_before) in
      let together : x.first ≡ y.first = omega (arith, ints, forth.0, behind.0) in
      same_event x y p q (omega (arith, forth.1 together, behind.1 (sym together)))

  same_lists : (xs ys : List ReadyEvent) → All (HasTimes bounds done now) xs → All (HasTimes bounds done now) ys → AllPairs IsBefore xs → AllPairs IsBefore ys
      → ((event : ℕ) → counted xs event ≡ counted ys event) → xs ≡ ys
  same_lists [] [] timed other_timed order other_order same = refl
  same_lists [] (y ∷ ys) timed other_timed order other_order same =
      absurd (omega (arith, same y.event, head_counts y ys y.event, ap one_or_none (eq-eqb y.event y.event refl)))
  same_lists (x ∷ xs) [] timed other_timed order other_order same =
      absurd (omega (arith, same x.event, head_counts x xs x.event, ap one_or_none (eq-eqb x.event x.event refl)))
  same_lists (x ∷ xs) (y ∷ ys) timed other_timed order other_order same =
      let first : x ≡ y = search (rules, same_first) in
      let rest : xs ≡ ys = same_lists xs ys (All-tail (HasTimes bounds done now) x xs timed) (All-tail (HasTimes bounds done now) y ys other_timed)
      (λ i j d before within. order (suc i) (suc j) d (omega arith) (omega arith)) (λ i j d before within. other_order (suc i) (suc j) d (omega arith) (omega arith))
      (λ event. omega (arith, same event, head_counts x xs event, head_counts y ys event, ap (λ (one : ReadyEvent). one_or_none (eqb one.event event)) first)) in
      λ i. first i ∷ rest i

  -- an event that counts in the one list counts once in the other
  counts_once : (xs ys : List ReadyEvent) → AreReadyEvents bounds done now xs → AreReadyEvents bounds done now ys → (event : ℕ) → 0 < counted xs event → counted xs event ≡ counted ys event
  counts_once xs ys p q event some =
      let there = stands xs event some in
      let one = λ (d : ReadyEvent). get_or xs there.0 d in
      let d : ReadyEvent = record { first = now; event = 0; last = now } in
      let times : HasTimes bounds done now (one d) = p.times there.0 d there.1 in
      let able = (times.1 (one d).first).1 (omega (arith, ints), times.0) in
      search rules

  -- one list says which events are ready
  pub one_list : IsOne (AreReadyEvents bounds done now)
  one_list xs ys p q = same_lists xs ys p.times q.times p.order q.order by
    where
      by : (event : ℕ) → counted xs event ≡ counted ys event
      by event = ⊎_elim
          (λ some. counts_once xs ys p q event some)
          (λ none. ⊎_elim (λ some. sym (counts_once ys xs q p event some)) (λ other. omega arith) (cases_lt 0 _))
          (cases_lt 0 _)
