use Rattle.std.{proofs.{lemmas.Int.ints, Common.{◌≡◌, ℕ, ℤ, ◌≤◌, ◌-ℤ◌, ◌≤ℤ◌, List, get_or, arith}}, specs.Prelude.All}
use Rattle.stn_net.specs.{Difference.{Difference, NamesEvents}, Schedule.IsSchedule, Matrix.{Table.{Table, far_of}, Tightest.{IsTightest, IsExact}, Closed.IsShortest, Way.IsImplied}}

-- two tightest differences of the same events are equal
pub tightest_unique : (bounds : List Difference) (x y : ℕ) (most other : ℤ) → IsTightest bounds x y most → IsTightest bounds x y other → most ≡ other
tightest_unique bounds x y most other p q = grind (arith)

-- a tightest difference depends on the set of schedules alone
pub tightest_same_schedules : (these those : List Difference) (x y : ℕ) (most : ℤ)
    → ((time : ℕ → ℤ) → IsSchedule these time → IsSchedule those time)
    → ((time : ℕ → ℤ) → IsSchedule those time → IsSchedule these time)
    → IsTightest these x y most → IsTightest those x y most
tightest_same_schedules these those x y most forth back p = record {
  bound = λ time s. p.bound time (back time s);
  attained = (p.attained.0, forth p.attained.0 p.attained.1, p.attained.2);
}

-- exactness depends on the set of schedules alone: so the order of the list, for one, does not matter
pub exact_same_schedules : (these those : List Difference) (table : Table)
    → ((time : ℕ → ℤ) → IsSchedule these time → IsSchedule those time)
    → ((time : ℕ → ℤ) → IsSchedule those time → IsSchedule these time)
    → All (NamesEvents table.events) those
    → IsExact these table → IsExact those table
exact_same_schedules these those table forth back named p = record {
  named = named;
  possible = (p.possible.0, forth p.possible.0 p.possible.1);
  far = λ x y xs ys. tightest_same_schedules these those x y (far_of table x y) forth back (p.far x y xs ys);
}

-- an exact table's count of steps does not matter
pub exact_same_entries : (bounds : List Difference) (table other : Table) → other.events ≡ table.events → other.entries ≡ table.entries → IsExact bounds table → IsExact bounds other
exact_same_entries bounds table other e f p =
    let named : All (NamesEvents other.events) bounds = rw e p.named in
    let far : (x y : ℕ) → x ≤ other.events → y ≤ other.events → IsTightest bounds x y (far_of other x y) = λ x y. rw (e, f) (p.far x y) in
    record { named = named; possible = p.possible; far = far }

-- no schedule goes beyond an entry, and no side of a bound is tighter than the entries
pub record IsTight (bounds : List Difference) (events : ℕ) (far : ℕ → ℕ → ℤ) : Type 0 where
  pub sound : (time : ℕ → ℤ) → IsSchedule bounds time → (x y : ℕ) → x ≤ events → y ≤ events → (time y -ℤ time x) ≤ℤ far x y
  pub implied : All (IsImplied far) bounds

-- the entries of an exact table are no looser than any of the bounds
pub tight_from_exact : (bounds : List Difference) (table : Table) → IsExact bounds table → IsTight bounds table.events (far_of table)
tight_from_exact bounds table p = record {
  sound = λ time s x y xs ys. (p.far x y xs ys).bound time s;
  implied = λ k d h.
      let b = get_or bounds k d in
      let named = p.named k d h in
      let forth = (p.far b.from b.to named.from named.to).attained in
      let back = (p.far b.to b.from named.to named.from).attained in
      let met_forth = forth.1.met k d h in
      let met_back = back.1.met k d h in
      record { upper = omega (arith, ints); lower = omega (arith, ints) };
}

-- and the shortest
pub shortest_from_exact : (bounds : List Difference) (table : Table) → IsExact bounds table → IsShortest table.events (far_of table)
shortest_from_exact bounds table p = record {
  itself = λ x xs. (let attains = (p.far x x xs xs).attained.2 in omega (arith, ints));
  triangle = λ x y z xs ys zs.
      let whole = (p.far x z xs zs).attained in
      let first = (p.far x y xs ys).bound whole.0 whole.1 in
      let second = (p.far y z ys zs).bound whole.0 whole.1 in
      omega (arith, ints);
}

-- a row of the shortest differences, if they are tight, is a schedule, shifted so that the origin is at 0
pub row_is_schedule : (bounds : List Difference) (events : ℕ) (far : ℕ → ℕ → ℤ) → All (NamesEvents events) bounds → IsShortest events far → IsTight bounds events far
    → (x : ℕ) → x ≤ events → IsSchedule bounds (λ z. far x z -ℤ far x 0)
row_is_schedule bounds events far named shortest tight x xs = record {
  origin = omega (arith, ints);
  met = λ k d h.
      let b = get_or bounds k d in
      let ends = named k d h in
      let implied = tight.implied k d h in
      let onward = shortest.triangle x b.from b.to xs ends.from ends.to in
      let back = shortest.triangle x b.to b.from xs ends.to ends.from in
      (omega (arith, ints), omega (arith, ints));
}

-- the rows of an exact table, for one
pub exact_row : (bounds : List Difference) (table : Table) (x : ℕ) → IsExact bounds table → x ≤ table.events → IsSchedule bounds (λ z. far_of table x z -ℤ far_of table x 0)
exact_row bounds table x p xs = row_is_schedule bounds table.events (far_of table) p.named (shortest_from_exact bounds table p) (tight_from_exact bounds table p) x xs

-- a tight table of the shortest differences is exact: each row is a schedule that attains its entries
pub exact_from_tight : (bounds : List Difference) (table : Table) → All (NamesEvents table.events) bounds → IsShortest table.events (far_of table) → IsTight bounds table.events (far_of table) → IsExact bounds table
exact_from_tight bounds table named shortest tight =
    let row : (x : ℕ) → x ≤ table.events → IsSchedule bounds (λ z. far_of table x z -ℤ far_of table x 0) = row_is_schedule bounds table.events (far_of table) named shortest tight in
    record {
      named = named;
      possible = ((λ z. far_of table 0 z -ℤ far_of table 0 0), row 0 (omega arith));
      far = λ x y xs ys.
          let itself = shortest.itself x xs in
          record {
            bound = λ time s. tight.sound time s x y xs ys;
            attained = ((λ z. far_of table x z -ℤ far_of table x 0), row x xs, omega (arith, ints));
          };
    }
