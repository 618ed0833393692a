-- Something comes next, whichever events are left.
use Rattle.std.proofs.{Common.{rules, ◌≡◌, ◌⊎◌, inl, inr, ℕ, ℤ, zero, suc, pos, ◌+◌, ◌≤◌, ◌<ℤ◌, Bool, List, length, Option, Some, None, refl, sym, arith}, lemmas.{Bool.cases_lt, Int.{ints, by_lt_z}}}
use Rattle.stn_net.{specs.{Difference.Difference, Matrix.{Table.{Table, far_of}, Tightest.IsExact}, declared.windows.answers.Next.{Next, TheVariants.{Run, AllDone, Overdue}}, Windows.{Dispatch.{IsLeft, IsNext}, Leading.{earliest, MayLead, NonePast, CanLead, IsFirstPast, IsLeastLatest, IsLeastLeader, IsEarliestSoFar, earlier_of}}}, proofs.{Readiness.left_within, Ends.{latest_of_exact, past_is_overdue}}}
use Rattle.stn_matrix.proofs.{Told.{Told, both_told, less_told, least_below}, Coming.{leader_is_first, earliest_is_first, one_more_run, same_first}}

pub left_told : (done : List Bool) (event : ℕ) → Told (IsLeft done event)
left_told done event = search rules

module _ (done : List Bool) where
  -- the least of some events that are all left, or none
  least_left : (P : ℕ → Type 0) → ((event : ℕ) → Told (P event)) → ((event : ℕ) → P event → IsLeft done event)
      → ((event : ℕ) × P event × ((other : ℕ) → P other → event ≤ other)) ⊎ ((event : ℕ) → ¬ P event)
  least_left P told left =
      elim (least_below P told (length done)) [
        | inl (event, holds, none) ↦ inl (event, holds, λ other is. elim (cases_lt other event) [ inl before ↦ absurd (none other before is) | inr after ↦ after ])
        | inr none ↦ inr (λ event is. none event (left_within done event (left event is)) is)
      ]

  -- the least event that is left and whose time comes before a time, or none
  some_past : (times : ℕ → ℤ) (now : ℤ) → ((event : ℕ) × IsFirstPast times done now event) ⊎ NonePast times done now
  some_past times now =
      let P : ℕ → Type 0 = λ event. IsLeft done event × (times event <ℤ now) in
      elim (least_left P (λ event. both_told (IsLeft done event) (times event <ℤ now) (left_told done event) (less_told (times event) now)) (λ event is. is.0)) [
        | inl (event, (left, past), least) ↦ inl (event, record { left = left; past = past; first = λ other is_left late. least other (is_left, late) })
        | inr none ↦ inr (λ event left. by_lt_z (times event) now (λ late. absurd (none event (left, late))) (λ later. later))
      ]

  pub leads_told : (far : ℕ → ℕ → ℤ) (event : ℕ) → Told (MayLead far done event)
  leads_told far event =
      elim (some_past (far event) (pos 0)) [
        | inl (other, past) ↦ inr (λ leads. let after = leads other past.left in let before = past.past in absurd (omega (arith, ints)))
        | inr none ↦ inl none
      ]

  can_lead_told : (far : ℕ → ℕ → ℤ) (now : ℤ) (event : ℕ) → Told (CanLead far done now event)
  can_lead_told far now event =
      elim (left_told done event) [
        | inr not_left ↦ inr (λ can. not_left can.left)
        | inl left ↦ elim (leads_told far event) [
          | inr behind ↦ inr (λ can. behind can.leads)
          | inl leads ↦
              by_lt_z now (earliest far event) (λ later. inr (λ can. let come = can.come in absurd (omega (arith, ints))))
              (λ come. inl (record { left = left; come = come; leads = leads }))
        ]
      ]

  -- the least event that can lead, or none
  some_leader : (far : ℕ → ℕ → ℤ) (now : ℤ) → ((run : ℤ × ℕ) × IsLeastLeader far done now run) ⊎ ((event : ℕ) → ¬ CanLead far done now event)
  some_leader far now =
      elim (least_left (CanLead far done now) (can_lead_told far now) (λ event can. can.left)) [
        | inl (event, leads, least) ↦ inl ((now, event), record { at = refl; leads = leads; first = least })
        | inr none ↦ inr none
      ]

  -- the first of the events with numbers below the limit, by these times, or none
  some_earliest : (times : ℕ → ℤ) (limit : ℕ) → (first : Option (ℤ × ℕ)) × IsEarliestSoFar times done limit first
  some_earliest times zero = search rules
  some_earliest times (suc event) =
      let (first, so_far) = some_earliest times event in
      let e : event + 1 ≡ suc event = omega arith in
      elim (left_told done event) [
        | inl left ↦ (
          Some (earlier_of first (times event, event)),
          rw e at (one_more_run times done event event first (times event) refl left refl so_far),
        )
        | inr not_left ↦ (first, rw e at (same_first times done event event first refl not_left so_far))
      ]

  -- the least of the times of the events that are left, of which this is one
  pub some_least_latest : (times : ℕ → ℤ) (event : ℕ) → IsLeft done event → (time : ℤ) × IsLeastLatest times done time
  some_least_latest times event left = (let (first, so_far) = some_earliest times (length done) in of first so_far)
    where
      of : (first : Option (ℤ × ℕ)) → IsEarliestSoFar times done (length done) first → (time : ℤ) × IsLeastLatest times done time
      of None none = absurd (none event (left_within done event left) left)
      of (Some run) is = (run.0, record { at = (run.1, is.left, sym is.at); least = λ other is_left. (is.first other (left_within done other is_left) is_left).0 })

-- the bounds and the flags of a plan's events, of which the table has the differences
pub record AreFlagged (bounds : List Difference) (table : Table) (done : List Bool) : Type 0 where
  pub exact : IsExact bounds table
  pub one_each : length done ≡ table.events + 1

pub some_next : (bounds : List Difference) (table : Table) (done : List Bool) (now : ℤ) → AreFlagged bounds table done → (answer : Next) × IsNext bounds done now answer
some_next bounds table done now are =
    elim (some_past done (far_of table 0) now) [
      | inl (event, past) ↦ (Overdue event, past_is_overdue bounds table.events (far_of table 0) done (latest_of_exact bounds table are.exact) are.one_each now event past)
      | inr none ↦ elim (some_leader done (far_of table) now) [
        | inl (run, leader) ↦ (Run run.0 run.1, leader_is_first bounds table done now run are.exact are.one_each none leader)
        | inr behind ↦ (let (first, so_far) = some_earliest done (earliest (far_of table)) (length done) in by_first behind first so_far)
      ]
    ]
  where
    by_first : ((event : ℕ) → ¬ CanLead (far_of table) done now event) → (first : Option (ℤ × ℕ)) → IsEarliestSoFar (earliest (far_of table)) done (length done) first
        → (answer : Next) × IsNext bounds done now answer
    by_first behind None none = (AllDone, λ event left. none event (left_within done event left) left)
    by_first behind (Some run) first = (Run run.0 run.1, earliest_is_first bounds table done now run are.exact are.one_each behind first)
