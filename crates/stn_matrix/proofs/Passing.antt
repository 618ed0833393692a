use Rattle.std.{proofs.{Common.{rules, ◌≡◌, ℕ, ℤ, ◌+◌, ◌<◌, ◌≤◌, ◌+ℤ◌, inl, inr, List, length, set, arith}, lemmas.{Int.ints, List.Sorted.{All-permutation, Contains-permutation}}}, specs.{Prelude.{All, slice_index_or}, List.Sorted.IsPermutation}}
use Rattle.stn_net.specs.Matrix.Way.{AreNearer, IsOnWay, AreRuns, AreRunsOf}
use Rattle.stn_matrix.proofs.Entries.{IsShortenedTo, shortened-own_row}

-- the columns in another order
pub nearer_moved : (events : ℕ) (far : ℕ → ℕ → ℤ) (u v : ℕ) (w : ℤ) (columns moved : List ℕ) (column : ℕ) → AreNearer events far u v w columns column
    → IsPermutation columns moved → AreNearer events far u v w moved column
nearer_moved events far u v w columns moved column nearer permutation = record {
  within = All-permutation (λ y. y ≤ events) columns moved permutation nearer.within;
  left_out = λ y below. elim (nearer.left_out y below) [
    | inl there ↦ inl (Contains-permutation columns moved y permutation there)
    | inr longer ↦ inr longer
  ];
}

-- the columns before `begin` are in runs that end there at the latest, and each of the others is a run of its own
pub record AreRunsTo (far : ℕ → ℕ → ℤ) (v : ℕ) (columns ends : List ℕ) (begin : ℕ) : Type 0 where
  pub alike : length ends ≡ length columns
  pub begins : begin ≤ length columns
  pub after : (i : ℕ) → i < begin → i < slice_index_or ends i 0
  pub within : (i : ℕ) → i < begin → slice_index_or ends i 0 ≤ begin
  pub alone : (i : ℕ) → begin ≤ i → i < length columns → slice_index_or ends i 0 ≡ i + 1
  pub beyond : (i j : ℕ) → i < begin → i < j → j < slice_index_or ends i 0 → IsOnWay far v (slice_index_or columns i 0) (slice_index_or columns j 0)

-- one more run, of which the columns before it know nothing
pub runs_more : (far : ℕ → ℕ → ℤ) (v : ℕ) (columns moved ends : List ℕ) (begin end : ℕ) → AreRunsTo far v columns ends begin
    → length moved ≡ length columns → begin < end → end ≤ length columns
    → ((i : ℕ) → i < begin → slice_index_or moved i 0 ≡ slice_index_or columns i 0)
    → ((i : ℕ) → begin < i → i < end → IsOnWay far v (slice_index_or moved begin 0) (slice_index_or moved i 0))
    → AreRunsTo far v moved (set ends begin end) end
runs_more far v columns moved ends begin end so_far same after within kept beyond = search rules

-- where the difference of a column's event does not get shorter, neither do those of its run
pub runs_of_row : (events : ℕ) (old new : ℕ → ℕ → ℤ) (u v : ℕ) (w : ℤ) (row : ℕ) (through : ℤ) (columns ends : List ℕ) → IsShortenedTo events old new u v w row
    → row ≤ events → through ≡ (new row u +ℤ w) → All (λ y. y ≤ events) columns → AreRuns old v columns ends → AreRunsOf (events + 1) (new row) (new v) through columns ends
runs_of_row events old new u v w row through columns ends so_far rs is within runs = record {
  named = λ k d h. let e = within k d h in omega arith;
  alike = runs.alike;
  after = runs.after;
  within = runs.within;
  passed = λ i j later below before_end longer.
      let first = slice_index_or columns i 0 in
      let then = slice_index_or columns j 0 in
      let firsts : first ≤ events = within i 0 (omega arith) in
      let thens : then ≤ events = within j 0 below in
      let first_own = so_far.left row first (omega arith) rs firsts in
      let then_own = so_far.left row then (omega arith) rs thens in
      let first_way = shortened-own_row events old new u v w row so_far first firsts in
      let then_way = shortened-own_row events old new u v w row so_far then thens in
      let onward = so_far.closed.shortest.triangle row first then rs firsts thens in
      let way = runs.beyond i j later below before_end in
      omega (arith, ints);
}
