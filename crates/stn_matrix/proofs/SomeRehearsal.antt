-- The rest of a plan can be rehearsed, or an event is overdue.
use Rattle.std.{proofs.{lemmas.{Grind.common_steps, List.Sums.sum_by-set}, Common.{rules, ◌≡◌, ◌≢◌, ◌⊎◌, inl, inr, ℕ, ℤ, zero, suc, ◌+◌, ◌≤◌, Bool, true, not, List, [], ◌∷◌, ◌++◌, refl, subst, arith, length-set}}, specs.Prelude.{count_by, slice_set}}
use Rattle.stn_net.{specs.{Difference.Difference, Matrix.Table.Table, declared.windows.answers.Next.{Next, TheVariants.{Run, AllDone, Overdue}}, Windows.{Dispatch.{IsLeft, IsNext}, Rehearsal.{fixed_at, IsRehearsal, IsRehearseFault}}}, proofs.Readiness.left_within}
use Rattle.stn_matrix.proofs.{Rehearsals.{ready_can_be_fixed, none_overdue_after, overdue_cannot_wait}, Fixed.exact_fixed, SomeNext.{AreFlagged, some_next}}
use Rattle.stn_net.specs.declared.windows.answers.RehearseFault.TheVariants as fault

-- one event fewer is left once one is done
one_fewer : (done : List Bool) (event : ℕ) → IsLeft done event → count_by not (slice_set done event true) + 1 ≡ count_by not done
one_fewer done event left = search (rules, sum_by-set, left_within)

-- the bounds and the flags, and what comes next, which is no overdue event
record AreUnderWay (bounds : List Difference) (table : Table) (done : List Bool) (now : ℤ) (answer : Next) : Type 0 where
  flagged : AreFlagged bounds table done
  next : IsNext bounds done now answer
  in_time : (event : ℕ) → answer ≢ Overdue event

some_rehearsal : (left : ℕ) (bounds : List Difference) (table : Table) (done : List Bool) (now : ℤ) (answer : Next) → count_by not done ≤ left
    → AreUnderWay bounds table done now answer → (runs : List (ℤ × ℕ)) × IsRehearsal bounds done now runs
some_rehearsal left bounds table done now AllDone few are = ([], are.next)
some_rehearsal left bounds table done now (Overdue event) few are = absurd (are.in_time event refl)
some_rehearsal zero bounds table done now (Run time event) few are = grind (arith, common_steps)
some_rehearsal (suc left) bounds table done now (Run time event) few are =
    let ready = are.next.ready in
    let (other, same, exact) = exact_fixed bounds table time event are.flagged.exact (omega (arith, left_within done event ready.left, are.flagged.one_each)) (ready_can_be_fixed bounds done time event ready) in
    let flagged : AreFlagged (bounds ++ fixed_at time event ∷ []) other (slice_set done event true) = record { exact = exact; one_each = omega (arith, length-set done event true, are.flagged.one_each, same) } in
    let (answer, next) = some_next (bounds ++ fixed_at time event ∷ []) other (slice_set done event true) time flagged in
    let (runs, rest) = some_rehearsal left (bounds ++ fixed_at time event ∷ []) other (slice_set done event true) time answer (omega (arith, one_fewer done event ready.left)) (record {
      flagged = flagged;
      next = next;
      in_time = λ late is. none_overdue_after bounds done time event late ready (subst (IsNext (bounds ++ fixed_at time event ∷ []) (slice_set done event true) time) {x = answer} is next);
    }) in
    ((time, event) ∷ runs, (are.next, rest))

pub rehearsed_or_overdue : (bounds : List Difference) (table : Table) (done : List Bool) (now : ℤ) → AreFlagged bounds table done
    → ((runs : List (ℤ × ℕ)) × IsRehearsal bounds done now runs) ⊎ ((event : ℕ) × IsRehearseFault bounds done now (fault.Overdue event))
rehearsed_or_overdue bounds table done now are = (let (answer, next) = some_next bounds table done now are in by answer next)
  where
    by : (answer : Next) → IsNext bounds done now answer → ((runs : List (ℤ × ℕ)) × IsRehearsal bounds done now runs) ⊎ ((event : ℕ) × IsRehearseFault bounds done now (fault.Overdue event))
    by (Run time event) next = inl (some_rehearsal (count_by not done) bounds table done now (Run time event) (omega arith) (record { flagged = are; next = next; in_time = λ late is. cc }))
    by AllDone next = inl ([], next)
    by (Overdue event) next = inr (event, (next, overdue_cannot_wait bounds done now event next))
