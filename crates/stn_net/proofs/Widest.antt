use Rattle.std.{proofs.{lemmas.{Grind.common_steps, Int.ints, Bool.cases_eq, List.Elements.All-nil}, Common.{rules, ◌≡◌, ◌≢◌, ℕ, zero, suc, ℤ, pos, ◌≤◌, ◌≤ℤ◌, inl, inr, [], ◌∷◌, ap, arith}}, specs.Prelude.All}
use Rattle.stn_time.specs.Time.{horizon}
use Rattle.stn_net.{specs.{Difference.{Difference, NamesEvents}, Horizon.{horizon_bound, horizon_bounds}, Schedule.IsSchedule, Matrix.{Table.{Table, far_of}, Tightest.IsExact, Closed.{IsClosed, IsWidest}, Way.IsImplied}}, proofs.{Tightest.{IsTight, exact_from_tight}, Closure.{schedule_before, schedule_last}}}

widest_most : (events : ℕ) (far : ℕ → ℕ → ℤ) → IsWidest events far → (x y : ℕ) → x ≤ events → y ≤ events → far x y ≤ℤ horizon
widest_most events far widest x y xs ys = search rules

-- the widest differences are closed
pub widest-closed : (events : ℕ) (far : ℕ → ℕ → ℤ) → IsWidest events far → IsClosed events far
widest-closed events far widest = search rules

-- what holds of each horizon bound holds of all of them
pub horizon_each : (P : Difference → Type 0) (events : ℕ) → ((event : ℕ) → event ≢ 0 → event ≤ events → P (horizon_bound event)) → All P (horizon_bounds events)
unfolding horizon_bounds
horizon_each P zero each = All-nil P
horizon_each P (suc events) each = grind (arith, common_steps, (horizon_each P events (λ event apart within. each event apart (omega arith))))

-- in a schedule of the horizon bounds each event lies from the origin to the horizon
pub horizon_times : (events : ℕ) (time : ℕ → ℤ) → IsSchedule (horizon_bounds events) time → (event : ℕ) → event ≤ events → (pos 0 ≤ℤ time event) × (time event ≤ℤ horizon)
unfolding horizon_bounds
horizon_times zero time s event within = grind (arith)
horizon_times (suc events) time s event within =
    let before = schedule_before (horizon_bounds events) (horizon_bound (suc events) ∷ []) time s in
    let last = schedule_last (horizon_bounds events) (horizon_bound (suc events)) time s in
    elim (cases_eq event (suc events)) [
      | inl e ↦ (let here : time event ≡ time (suc events) = ap time e in let origin = s.origin in (omega (arith, ints), omega (arith, ints)))
      | inr differ ↦ horizon_times events time before event (omega arith)
    ]

-- the widest differences are tight for the horizon bounds
pub widest-tight : (events : ℕ) (far : ℕ → ℕ → ℤ) → IsWidest events far → IsTight (horizon_bounds events) events far
widest-tight events far widest = record {
  sound = λ time s x y xs ys.
      let first = horizon_times events time s x xs in
      let second = horizon_times events time s y ys in
      let origin = s.origin in
      elim (cases_eq y 0) [
        | inl e ↦ (let here : far x y ≡ pos 0 = rw e (widest.origin x xs) in let there : time y ≡ time 0 = ap time e in omega (arith, ints))
        | inr apart ↦ elim (cases_eq x y) [
          | inl e ↦ (let here : far x y ≡ pos 0 = rw e (widest.itself y ys) in let there : time x ≡ time y = ap time e in omega (arith, ints))
          | inr differ ↦ (let here = widest.others x y xs ys apart differ in omega (arith, ints))
        ]
      ];
  implied = horizon_each (IsImplied far) events (λ event apart within. (let here = widest.origin event within in
      record { upper = widest_most events far widest 0 event (omega arith) within; lower = omega (arith, ints) }));
}

-- the horizon bounds name their events
pub horizon_named : (events : ℕ) → All (NamesEvents events) (horizon_bounds events)
horizon_named events = search (rules, horizon_each)

-- a table of the widest differences is exact for the horizon bounds
pub exact_widest : (table : Table) → IsWidest table.events (far_of table) → IsExact (horizon_bounds table.events) table
exact_widest table widest = exact_from_tight (horizon_bounds table.events) table (horizon_named table.events) (widest-closed table.events (far_of table) widest).shortest (widest-tight table.events (far_of table) widest)
