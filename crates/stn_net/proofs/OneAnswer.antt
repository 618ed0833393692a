use Rattle.std.{proofs.{Common.{rules, ◌≡◌, ℕ, ℤ, true, Bool, List, [], ◌∷◌, ◌++◌, refl, sym, arith}, lemmas.Int.ints}, specs.Prelude.slice_set}
use Rattle.stn_net.specs.{Difference.Difference, declared.windows.answers.Next.{Next, TheVariants.{Run, AllDone, Overdue}}, Windows.{Dispatch.{IsFirstReady, IsOverdue, IsNext}, Rehearsal.{fixed_at, IsRehearsal}}}

-- two runs that both come first are one
one_first : (bounds : List Difference) (done : List Bool) (now time other_time : ℤ) (event other : ℕ) → IsFirstReady bounds done now time event
    → IsFirstReady bounds done now other_time other → (time ≡ other_time) × (event ≡ other)
one_first bounds done now time other_time event other these those =
    let forth = these.first other_time other those.later those.ready in
    let back = those.first time event these.later these.ready in
    let same : time ≡ other_time = omega (arith, ints, forth.0, back.0) in
    (same, omega (arith, forth.1 same, back.1 (sym same)))

-- one answer says what comes next
pub one_next : (bounds : List Difference) (done : List Bool) (now : ℤ) (one other : Next) → IsNext bounds done now one → IsNext bounds done now other → one ≡ other
one_next bounds done now (Run time event) (Run other_time other) p q = let same = one_first bounds done now time other_time event other p q in rw (same.0, same.1) refl
one_next bounds done now (Run time event) AllDone p q = absurd (q event p.ready.left)
one_next bounds done now (Run time event) (Overdue other) p q = search rules
one_next bounds done now AllDone (Run time event) p q = absurd (p event q.ready.left)
one_next bounds done now AllDone AllDone p q = refl
one_next bounds done now AllDone (Overdue other) p q = absurd (p other q.left)
one_next bounds done now (Overdue event) (Run time other) p q = search rules
one_next bounds done now (Overdue event) AllDone p q = absurd (q event p.left)
one_next bounds done now (Overdue event) (Overdue other) p q = search rules

-- a plan has one rehearsal
pub one_rehearsal : (one other : List (ℤ × ℕ)) (bounds : List Difference) (done : List Bool) (now : ℤ) → IsRehearsal bounds done now one → IsRehearsal bounds done now other → one ≡ other
one_rehearsal [] [] bounds done now p q = refl
one_rehearsal [] (run ∷ runs) bounds done now p q = absurd (p run.1 q.0.ready.left)
one_rehearsal (run ∷ runs) [] bounds done now p q = absurd (q run.1 p.0.ready.left)
one_rehearsal (run ∷ runs) (other ∷ others) bounds done now p q =
    let same = one_first bounds done now run.0 other.0 run.1 other.1 p.0 q.0 in
    let first : run ≡ other = rw (same.0, same.1) refl in
    let P : ℤ × ℕ → Type 0 = λ r. IsRehearsal (bounds ++ fixed_at r.0 r.1 ∷ []) (slice_set done r.1 true) r.0 runs in
    let rest : runs ≡ others = one_rehearsal runs others (bounds ++ fixed_at other.0 other.1 ∷ []) (slice_set done other.1 true) other.0 (rw first at p.1) q.1 in
    rw (first, rest) refl

-- no event is overdue in a plan that has a rehearsal
pub none_overdue : (bounds : List Difference) (done : List Bool) (now : ℤ) (runs : List (ℤ × ℕ)) (event : ℕ) → IsRehearsal bounds done now runs → ¬ IsOverdue bounds done now event
none_overdue bounds done now [] event rehearsal overdue = rehearsal event overdue.left
none_overdue bounds done now (run ∷ runs) event rehearsal overdue = search rules
