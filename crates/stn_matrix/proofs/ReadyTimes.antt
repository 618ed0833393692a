-- The times at which an event may run.
use Rattle.std.{proofs.{Common.{rules, ◌≡◌, inl, inr, ℕ, ℤ, ◌+◌, ◌≤ℤ◌, ◌↔◌, Bool, List, length, Option, Some, None, refl, arith}, lemmas.Int.{ints, by_lt_z}}, specs.Ordering.{ord_max, int_cmp}}
use Rattle.stn_net.{specs.{Difference.Difference, Matrix.{Table.{Table, far_of}, Tightest.IsExact}, Windows.{Dispatch.{IsLeft, IsReady, AreReadyTimes}, Leading.{earliest, MayLead, IsLeastLatest}}}, proofs.Readiness.{ready_now, ready_can_lead, ready_none_past}}
use Rattle.stn_matrix.proofs.SomeNext.{AreFlagged, left_told, leads_told, some_least_latest}

-- the later of two times comes before whatever both come before
pub later_of : (early now first time : ℤ) → first ≡ ord_max int_cmp early now → (first ≤ℤ time) ↔ ((early ≤ℤ time) × (now ≤ℤ time))
later_of early now first time is = search rules

-- an event that is left and leads may run from its earliest time up to the least of all latest times
ready_between : (bounds : List Difference) (table : Table) (done : List Bool) (event : ℕ) (last time : ℤ) → IsExact bounds table → length done ≡ table.events + 1
    → IsLeft done event → MayLead (far_of table) done event → IsLeastLatest (far_of table 0) done last
    → IsReady bounds done event time ↔ ((earliest (far_of table) event ≤ℤ time) × (time ≤ℤ last))
ready_between bounds table done event last time exact one_each left leads least = (
  (λ ready.
      let (other, is_left, at) = least.at in
      let in_time = ready_none_past bounds table done event time exact one_each ready other is_left in
      ((ready_can_lead bounds table done event time exact one_each ready).come, omega (arith, ints))),
  (λ between.
      ready_now bounds table done event time exact one_each (record { left = left; come = between.0; leads = leads })
      (λ other is_left. let late = least.least other is_left in omega (arith, ints))),
)

-- and from now on, from the later of now and its earliest time
ready_from_now : (bounds : List Difference) (table : Table) (done : List Bool) (event : ℕ) (now early first last : ℤ) → IsExact bounds table
    → length done ≡ table.events + 1 → IsLeft done event → MayLead (far_of table) done event → IsLeastLatest (far_of table 0) done last
    → early ≡ earliest (far_of table) event → first ≡ ord_max int_cmp early now
    → (time : ℤ) → ((now ≤ℤ time) × IsReady bounds done event time) ↔ ((first ≤ℤ time) × (time ≤ℤ last))
ready_from_now bounds table done event now early first last exact one_each left leads least from is time =
    let ready = ready_between bounds table done event last time exact one_each left leads least in
    let later = later_of early now first time is in (
      (λ h. let ends = ready.0 h.1 in (later.1 (rw from ends.0, h.0), ends.1)),
      (λ h. let ends = later.0 h.0 in (ends.1, ready.1 (rw from at ends.0, h.1))),
    )

-- an event may run at some times, or at none
pub some_ready_times : (bounds : List Difference) (table : Table) (done : List Bool) (now : ℤ) (event : ℕ) → AreFlagged bounds table done
    → (times : Option (ℤ × ℤ)) × AreReadyTimes bounds done now event times
some_ready_times bounds table done now event are =
    elim (left_told done event) [
      | inr not_left ↦ (None, λ time later ready. not_left ready.left)
      | inl left ↦ elim (leads_told done (far_of table) event) [
        | inr behind ↦ (None, λ time later ready. behind (ready_can_lead bounds table done event time are.exact are.one_each ready).leads)
        | inl leads ↦
            let (last, least) = some_least_latest done (far_of table 0) event left in
            let first = ord_max int_cmp (earliest (far_of table) event) now in
            let ready = ready_from_now bounds table done event now (earliest (far_of table) event) first last are.exact are.one_each left leads least refl refl in
            by_lt_z last first
            (λ none. (None, λ time later is_ready. let ends = (ready time).0 (later, is_ready) in let come = ends.0 in let late = ends.1 in absurd (omega (arith, ints))))
            (λ some. (Some (first, last), (some, ready)))
      ]
    ]
