-- The table of some differences, and that of a plan's once an event is fixed.
use Rattle.std.{proofs.{Common.{rules, ◌≡◌, ℕ, ℤ, pos, ◌+◌, ◌*◌, ◌/◌, ◌%◌, ◌≤◌, List, [], ◌∷◌, ◌++◌, map, refl, arith}, lemmas.{Int.ints, Nat.{div-mul-add, mod-mul-add}, List.FromFn.get_or-map-range_with_len}}, specs.{Prelude.All, List.range_with_len}}
use Rattle.stn_net.{specs.{Difference.{Difference, NamesEvents}, Schedule.HasSchedule, Matrix.{Table.{Table, far_of}, Tightest.{IsTightest, IsExact}, Way.narrower}, Windows.Rehearsal.fixed_at}, proofs.{Tightest.shortest_from_exact, Closure.{shortest_same, narrower-shortest, room_from_schedule, exact_narrower}}}
use Rattle.stn_matrix.proofs.Entries.{place_within}

-- the table of so many events that has these differences
abbrev pub table_of : ℕ → (ℕ → ℕ → ℤ) → Table
table_of events far = record {
  events = events;
  entries = map (λ place. far (place / (events + 1)) (place % (events + 1))) (range_with_len 0 ((events + 1) * (events + 1)));
  steps = 0;
}

far_of-table_of : (events : ℕ) (far : ℕ → ℕ → ℤ) (x y : ℕ) → x ≤ events → y ≤ events → far_of (table_of events far) x y ≡ far x y
far_of-table_of events far x y xs ys =
    cc (get_or-map-range_with_len (λ place. far (place / (events + 1)) (place % (events + 1))) 0 ((events + 1) * (events + 1)) (x * (events + 1) + y) (x * (events + 1) + y) (pos 0) (place_within events x y xs ys) (omega arith), div-mul-add x (events + 1) y (omega arith), mod-mul-add x (events + 1) y (omega arith))

-- the table of the tightest differences is exact
pub exact_of_tightest : (bounds : List Difference) (events : ℕ) (far : ℕ → ℕ → ℤ) → All (NamesEvents events) bounds → HasSchedule bounds
    → ((x y : ℕ) → x ≤ events → y ≤ events → IsTightest bounds x y (far x y)) → IsExact bounds (table_of events far)
exact_of_tightest bounds events far named possible tightest = search (rules, far_of-table_of)

-- a table is exact for the bounds and an event that is fixed at a time that it has in some schedule
pub exact_fixed : (bounds : List Difference) (table : Table) (time : ℤ) (event : ℕ) → IsExact bounds table → event ≤ table.events → HasSchedule (bounds ++ fixed_at time event ∷ [])
    → (other : Table) × (other.events ≡ table.events) × IsExact (bounds ++ fixed_at time event ∷ []) other
exact_fixed bounds table time event exact within possible =
    let far = narrower (far_of table) (fixed_at time event) in
    let named : NamesEvents table.events (fixed_at time event) = record { from = omega arith; to = within } in
    let shortest = shortest_from_exact bounds table exact in
    let same : (x y : ℕ) → x ≤ table.events → y ≤ table.events → far_of (table_of table.events far) x y ≡ far x y = far_of-table_of table.events far in
    let room = room_from_schedule bounds table (fixed_at time event) named exact possible in (
      table_of table.events far,
      refl,
      exact_narrower bounds table (table_of table.events far) (fixed_at time event) named shortest
          (shortest_same table.events far (far_of (table_of table.events far)) same (narrower-shortest table.events (far_of table) (fixed_at time event) shortest named (omega (arith, ints)) room)) refl same exact,
    )
