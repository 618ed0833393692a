use Rattle.std.{proofs.{lemmas.{Int.{ints, clamps}, Bool.{cases_eq, cases_lt}, Nat.same_from_place, List.{get_or_default, Elements.{All-push, Contains-push, Contains-append_left}}}, Common.{rules, ◌≡◌, ◌≢◌, ℕ, ℤ, pos, ◌+◌, ◌*◌, ◌<◌, ◌≤◌, ◌+ℤ◌, ◌≤ℤ◌, ◌<ℤ◌, ◌⊎◌, inl, inr, List, [], ◌∷◌, ◌++◌, length, set, refl, sym, ◌∙◌, arith, get_or-set_same, get_or-set_other}}, specs.{Prelude.{All, Contains, slice_index_or}, Int.int_min}}
use Rattle.stn_time.specs.Time.{horizon}
use Rattle.stn_net.{specs.Matrix.{Closed.IsClosed, Table.{Square, entry}, Way.{IsWholeSquare, shorter, IsWithinTwoHorizons, AreNearer, AreRunsOf, IsWrittenEntry, IsRowShortened}}, proofs.Closure.shorter-kept_row}

-- the place of an entry lies in the square
pub place_within : (events row column : ℕ) → row ≤ events → column ≤ events → row * (events + 1) + column < (events + 1) * (events + 1)
place_within events row column rs cs = search rules

-- a write at the place of an entry is a write of this entry alone
pub written-set : (square : Square) (row column : ℕ) (value : ℤ) → IsWholeSquare square → row ≤ square.events → column ≤ square.events
    → IsWrittenEntry square.events (entry square)
    (entry (record { events = square.events; entries = set square.entries (row * (square.events + 1) + column) value })) row column value
written-set square row column value whole rs cs =
    let width = square.events + 1 in
    let place = row * width + column in
    let within : place < length square.entries = omega (arith, place_within square.events row column rs cs, whole.entries) in
    record {
      here = get_or-set_same square.entries place value (pos 0) within;
      others = λ x y xs ys apart.
          let differs : (x * width + y) ≢ place = λ e.
          let same = same_from_place x y row column width (omega arith) (omega arith) e in
          elim apart [ inl ne ↦ ne same.0 | inr ne ↦ ne same.1 ] in
          get_or-set_other square.entries place (x * width + y) value (pos 0) differs;
    }

-- a row's entries in the columns before a place are shorter already, and the others are as they were, or shorter too
pub record AreShortened (size : ℕ) (old new onward : ℕ → ℤ) (through : ℤ) (columns : List ℕ) (place : ℕ) : Type 0 where
  pub here : (k : ℕ) → k < place → k < length columns
      → new (slice_index_or columns k 0) ≡ int_min (old (slice_index_or columns k 0)) (through +ℤ onward (slice_index_or columns k 0))
  pub either : (y : ℕ) → y < size → (new y ≡ old y) ⊎ (new y ≡ int_min (old y) (through +ℤ onward y))

-- one more column, which may be among them already
pub shortened_column : (size : ℕ) (old new next onward : ℕ → ℤ) (through : ℤ) (columns : List ℕ) (place : ℕ)
    → AreShortened size old new onward through columns place → All (λ y. y < size) columns → place < length columns
    → next (slice_index_or columns place 0) ≡ int_min (new (slice_index_or columns place 0)) (through +ℤ onward (slice_index_or columns place 0))
    → ((y : ℕ) → y < size → y ≢ slice_index_or columns place 0 → next y ≡ new y)
    → AreShortened size old next onward through columns (place + 1)
shortened_column size old new next onward through columns place so_far within there here others =
    let column = slice_index_or columns place 0 in
    let cs : column < size = within place 0 there in
    let least : next column ≡ int_min (old column) (through +ℤ onward column) = elim (so_far.either column cs) [
      | inl own ↦ (here ∙ rw own refl)
      | inr own ↦ omega (arith, ints, clamps)
    ] in
    record {
      here = λ k before below. search (rules, cases_eq);
      either = λ y ys. search (rules, cases_eq);
    }

-- the run of a column that comes no nearer
pub shortened_run : (size : ℕ) (old new onward : ℕ → ℤ) (through : ℤ) (columns ends : List ℕ) (place : ℕ)
    → AreShortened size old new onward through columns place → AreRunsOf size old onward through columns ends
    → place < length columns → new (slice_index_or columns place 0) <ℤ (through +ℤ onward (slice_index_or columns place 0))
    → AreShortened size old new onward through columns (slice_index_or ends place 0)
shortened_run size old new onward through columns ends place so_far runs there longer =
    let column = slice_index_or columns place 0 in
    let cs : column < size = runs.named place 0 there in
    let either_here = so_far.either column cs in
    let own : old column ≤ℤ (through +ℤ onward column) = omega (arith, ints, clamps) in
    let kept : (y : ℕ) → y < size → old y ≤ℤ (through +ℤ onward y) → new y ≡ int_min (old y) (through +ℤ onward y) =
    λ y ys far. elim (so_far.either y ys) [ inl same ↦ omega (arith, ints, clamps) | inr same ↦ same ] in
    record {
      here = λ k before below. elim (cases_lt k place) [
        | inl done ↦ so_far.here k done below
        | inr not_done ↦ elim (cases_eq k place) [
          | inl e ↦ rw e (kept column cs own)
          | inr ne ↦ kept (slice_index_or columns k 0) (runs.named k 0 below) (runs.passed place k (omega arith) below before own)
        ]
      ];
      either = so_far.either;
    }

-- the columns that are left out do not change
pub shortened_columns : (size : ℕ) (old new onward : ℕ → ℤ) (through : ℤ) (columns : List ℕ) (place : ℕ)
    → AreShortened size old new onward through columns place → length columns ≤ place
    → ((y : ℕ) → y < size → Contains columns y ⊎ (old y ≤ℤ (through +ℤ onward y)))
    → (y : ℕ) → y < size → new y ≡ int_min (old y) (through +ℤ onward y)
shortened_columns size old new onward through columns place so_far all left_out y ys = search (rules, get_or_default)

-- a column that comes no nearer is left out
pub nearer_skip : (events : ℕ) (far : ℕ → ℕ → ℤ) (u v : ℕ) (w : ℤ) (columns : List ℕ) (column : ℕ) → AreNearer events far u v w columns column
    → far u column ≤ℤ (w +ℤ far v column) → AreNearer events far u v w columns (column + 1)
nearer_skip events far u v w columns column so_far longer = grind (arith)

-- the others are listed
pub nearer_more : (events : ℕ) (far : ℕ → ℕ → ℤ) (u v : ℕ) (w : ℤ) (columns : List ℕ) (column : ℕ) → AreNearer events far u v w columns column
    → column ≤ events → AreNearer events far u v w (columns ++ column ∷ []) (column + 1)
nearer_more events far u v w columns column so_far cs = record {
  within = All-push (λ y. y ≤ events) columns column so_far.within cs;
  left_out = λ y below. elim (cases_eq y column) [
    | inl e ↦ inl (rw e (Contains-push columns column))
    | inr ne ↦ elim (so_far.left_out y (omega arith)) [
      | inl there ↦ inl (Contains-append_left columns (column ∷ []) y there)
      | inr longer ↦ inr longer
    ]
  ];
}

-- the rows before this one are shorter already by way of a link that closes no negative cycle, and the others are as they were
pub record IsShortenedTo (events : ℕ) (old new : ℕ → ℕ → ℤ) (u v : ℕ) (w : ℤ) (row : ℕ) : Type 0 where
  pub closed : IsClosed events old
  pub from : u ≤ events
  pub to : v ≤ events
  pub round : pos 0 ≤ℤ (old v u +ℤ w)
  pub here : (x y : ℕ) → x < row → x ≤ events → y ≤ events → new x y ≡ shorter old u v w x y
  pub left : (x y : ℕ) → row ≤ x → x ≤ events → y ≤ events → new x y ≡ old x y

-- the row that the link leads to is as it was all the while
pub shortened-own_row : (events : ℕ) (old new : ℕ → ℕ → ℤ) (u v : ℕ) (w : ℤ) (row : ℕ) → IsShortenedTo events old new u v w row
    → (y : ℕ) → y ≤ events → new v y ≡ old v y
shortened-own_row events old new u v w row so_far y ys = search rules

-- the row as it was
pub shortened_skip : (events : ℕ) (old new : ℕ → ℕ → ℤ) (u v : ℕ) (w : ℤ) (row : ℕ) → IsShortenedTo events old new u v w row
    → row ≤ events → new row v ≤ℤ (new row u +ℤ w) → IsShortenedTo events old new u v w (row + 1)
shortened_skip events old new u v w row so_far rs longer =
    let own = so_far.left row v (omega arith) rs so_far.to in
    let way = so_far.left row u (omega arith) rs so_far.from in
    record {
      closed = so_far.closed;
      from = so_far.from;
      to = so_far.to;
      round = so_far.round;
      here = λ x y h xs ys. elim (cases_eq x row) [
        | inl e ↦ (let kept = shorter-kept_row events old u v w so_far.closed so_far.to row y rs ys (omega (arith, ints)) in rw e (so_far.left row y (omega arith) rs ys ∙ sym kept))
        | inr ne ↦ so_far.here x y (omega arith) xs ys
      ];
      left = λ x y h xs ys. so_far.left x y (omega arith) xs ys;
    }

-- the row by way of the link
pub shortened_turn : (events : ℕ) (old new next : ℕ → ℕ → ℤ) (u v : ℕ) (w : ℤ) (row : ℕ) → IsShortenedTo events old new u v w row
    → row ≤ events → IsRowShortened events new next row v (new row u +ℤ w) → IsShortenedTo events old next u v w (row + 1)
shortened_turn events old new next u v w row so_far rs turned = record {
  closed = so_far.closed;
  from = so_far.from;
  to = so_far.to;
  round = so_far.round;
  here = λ x y h xs ys. elim (cases_eq x row) [
    | inl e ↦ (
        let own = so_far.left row y (omega arith) rs ys in
        let way = so_far.left row u (omega arith) rs so_far.from in
        let onward = shortened-own_row events old new u v w row so_far y ys in
        rw e (turned.here y ys ∙ (rw (own, way, onward) refl)))
    | inr ne ↦ (turned.others x y xs ys ne ∙ so_far.here x y (omega arith) xs ys)
  ];
  left = λ x y h xs ys. turned.others x y xs ys (omega arith) ∙ so_far.left x y (omega arith) xs ys;
}

-- a row from which v comes nearer by way of the arc is not v's own, and no sum of its differences goes beyond reach
pub record IsNearerRow (events : ℕ) (far : ℕ → ℕ → ℤ) (row v : ℕ) (through : ℤ) : Type 0 where
  pub apart : row ≢ v
  pub ways : (y : ℕ) → y ≤ events → IsWithinTwoHorizons (through +ℤ far v y)

pub nearer_row : (events : ℕ) (old new : ℕ → ℕ → ℤ) (u v : ℕ) (w : ℤ) (row : ℕ) (through : ℤ) → IsShortenedTo events old new u v w row
    → row ≤ events → through ≡ (new row u +ℤ w) → through <ℤ new row v → IsNearerRow events new row v through
nearer_row events old new u v w row through so_far rs is nearer =
    let closed = so_far.closed in
    let round = so_far.round in
    let start = so_far.left row u (omega arith) rs so_far.from in
    let end = so_far.left row v (omega arith) rs so_far.to in
    let most = closed.most row v rs so_far.to in
    record {
      apart = λ e. search (rules, ints);
      ways = λ y ys.
          let own = shortened-own_row events old new u v w row so_far y ys in
          let far = closed.most v y so_far.to ys in
          let back = closed.shortest.triangle v row u so_far.to rs so_far.from in
          let onward = closed.shortest.triangle v y row so_far.to ys rs in
          let near = closed.most y row ys rs in
          (omega (arith, ints), omega (arith, ints));
    }

-- in the row the columns that are not listed do not come nearer
pub row_left_out : (events : ℕ) (old new : ℕ → ℕ → ℤ) (u v : ℕ) (w : ℤ) (row : ℕ) (columns : List ℕ) (through : ℤ) → IsShortenedTo events old new u v w row
    → row ≤ events → through ≡ (new row u +ℤ w) → AreNearer events old u v w columns (events + 1)
    → (y : ℕ) → y ≤ events → Contains columns y ⊎ (new row y ≤ℤ (through +ℤ new v y))
row_left_out events old new u v w row columns through so_far rs is listed y ys =
    let start = so_far.left row u (omega arith) rs so_far.from in
    let own = so_far.left row y (omega arith) rs ys in
    let onward = shortened-own_row events old new u v w row so_far y ys in
    elim (listed.left_out y (omega arith)) [
      | inl there ↦ inl there
      | inr longer ↦ inr (let way = so_far.closed.shortest.triangle row u y rs so_far.from ys in omega (arith, ints))
    ]

-- the rows before this one hold the widest differences already, and the others the horizon
pub record IsWidenedTo (events : ℕ) (far : ℕ → ℕ → ℤ) (row : ℕ) : Type 0 where
  pub origin : (x : ℕ) → x < row → x ≤ events → far x 0 ≡ pos 0
  pub itself : (x : ℕ) → x < row → x ≤ events → far x x ≡ pos 0
  pub others : (x y : ℕ) → x ≤ events → y ≤ events → y ≢ 0 → x ≢ y → far x y ≡ horizon
  pub left : (x y : ℕ) → row ≤ x → x ≤ events → y ≤ events → far x y ≡ horizon
