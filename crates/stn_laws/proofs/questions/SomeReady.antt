-- The events that are ready have a list in their order.
use Rattle.std.{proofs.{Common.{rules, ◌≡◌, ◌⊎◌, inl, inr, ℕ, ℤ, zero, suc, ◌+◌, ◌≤◌, Bool, eqb, cond, List, [], ◌∷◌, ◌++◌, get_or, All, Option, Some, None, refl, ◌∙◌, arith}, lemmas.List.{Elements.{All-nil, All-cons, All-push}, Kept.AllPairs-cons, Sorted.{IsPermutation-refl, IsPermutation-cons, IsPermutation-middle, IsPermutation-trans, All-permutation, sum_by-IsPermutation}}}, specs.List.{AllPairs, Sorted.IsPermutation}}
use Rattle.stn_net.{specs.{Difference.Difference, Matrix.Table.Table, Windows.Dispatch.AreReadyTimes}, proofs.Readiness.left_within}
use Rattle.stn_matrix.proofs.{ReadyTimes.some_ready_times, SomeNext.AreFlagged}
use Rattle.stn_questions.{specs.{declared.ready_event.ReadyEvent.ReadyEvent, Ready.{IsBefore, AreReadyEvents}}, proofs.ReadyLists.{counted, HasTimes, HasEachBelow, pushed_other, ready_pushed, ready_kept}}
use Rattle.stn_laws.proofs.questions.OneReady.{first_before}

-- ---- an order
before_or_after : (x y : ReadyEvent) → IsBefore x y ⊎ IsBefore y x
before_or_after x y = search rules

before_through : (x y z : ReadyEvent) → IsBefore x y → IsBefore y z → IsBefore x z
before_through x y z p q = search rules

-- the same events, in order
record IsOrdered (xs ys : List ReadyEvent) : Type 0 where
  same : IsPermutation xs ys
  order : AllPairs IsBefore ys

one_ordered : (one : ReadyEvent) (xs : List ReadyEvent) → AllPairs IsBefore xs → (ys : List ReadyEvent) × IsOrdered (one ∷ xs) ys
one_ordered one [] order = (one ∷ [], record { same = IsPermutation-refl (one ∷ []); order = AllPairs-cons IsBefore one [] (All-nil _) order })
one_ordered one (x ∷ xs) order =
    elim (before_or_after one x) [
      | inl before ↦ (
        one ∷ x ∷ xs,
        record {
          same = IsPermutation-refl (one ∷ x ∷ xs);
          order = AllPairs-cons IsBefore one (x ∷ xs) (λ place d within. before_through one x (get_or (x ∷ xs) place d) before (first_before x xs place d order within)) order;
        },
      )
      | inr after ↦
          let (ys, ordered) = one_ordered one xs (λ i j d less within. order (suc i) (suc j) d (omega arith) (omega arith)) in
          let all : All (IsBefore x) (one ∷ xs) = All-cons (IsBefore x) one xs after (λ place d within. order 0 (suc place) d (omega arith) (omega arith)) in (
            x ∷ ys,
            record {
              same = IsPermutation-trans _ _ _ (IsPermutation-middle (one ∷ []) x xs) (IsPermutation-cons x (one ∷ xs) ys ordered.same);
              order = AllPairs-cons IsBefore x ys (All-permutation (IsBefore x) (one ∷ xs) ys ordered.same all) ordered.order;
            },
          )
    ]

all_ordered : (xs : List ReadyEvent) → (ys : List ReadyEvent) × IsOrdered xs ys
all_ordered [] = search (rules)
all_ordered (x ∷ xs) =
    let (ys, rest) = all_ordered xs in
    let (zs, whole) = one_ordered x ys rest.order in
    (zs, record { same = IsPermutation-trans _ _ zs (IsPermutation-cons x xs ys rest.same) whole.same; order = whole.order })

-- ---- by number
-- of the events with numbers below the limit, those that are ready, each once, and no other
record AreReadyBelow (bounds : List Difference) (done : List Bool) (now : ℤ) (limit : ℕ) (ready : List ReadyEvent) : Type 0 where
  times : All (HasTimes bounds done now) ready
  once : HasEachBelow bounds done now limit ready
  none : (event : ℕ) → limit ≤ event → counted ready event ≡ 0

module _ (bounds : List Difference) (table : Table) (done : List Bool) (now : ℤ) (are : AreFlagged bounds table done) where
  one_more : (number : ℕ) (ready : List ReadyEvent) (times : Option (ℤ × ℤ)) → AreReadyBelow bounds done now number ready
      → AreReadyTimes bounds done now number times → (more : List ReadyEvent) × AreReadyBelow bounds done now (number + 1) more
  one_more number ready None so_far is = (
    ready,
    record {
      times = so_far.times;
      once = ready_kept _ done now ready _ _ refl is so_far.once;
      none = λ event past. so_far.none event (omega arith);
    },
  )
  one_more number ready (Some ends) so_far is =
      let one : ReadyEvent = record { first = ends.0; event = number; last = ends.1 } in (
        ready ++ one ∷ [],
        record {
          times = All-push (HasTimes bounds done now) ready one so_far.times is;
          once = ready_pushed bounds done now ready one number refl (so_far.none number (omega arith)) so_far.once;
          none = λ event past. pushed_other ready one event (λ same. omega arith) ∙ so_far.none event (omega arith);
        },
      )

  by_number : (limit : ℕ) → (ready : List ReadyEvent) × AreReadyBelow bounds done now limit ready
  by_number zero = search (rules)
  by_number (suc number) =
      let (ready, so_far) = by_number number in
      let (times, is) = some_ready_times bounds table done now number are in
      let (more, all) = one_more number ready times so_far is in
      search rules

  pub some_ready_events : (ready : List ReadyEvent) × AreReadyEvents bounds done now ready
  some_ready_events =
      let (ready, all) = by_number (table.events + 1) in
      let (ordered, is) = all_ordered ready in (
        ordered,
        record {
          times = All-permutation (HasTimes bounds done now) ready ordered is.same all.times;
          once = λ event time later able.
              sum_by-IsPermutation (λ (one : ReadyEvent). cond (eqb one.event event) 1 0) ready ordered is.same
              ∙ all.once event time (omega (arith, left_within done event able.left, are.one_each)) later able;
          order = is.order;
        },
      )
