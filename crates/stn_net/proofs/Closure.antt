use Rattle.std.{proofs.{lemmas.{Grind.common_steps, Int.{ints, clamps}, List.Elements.All-push}, Common.{rules, ◌≡◌, ℕ, ℤ, pos, ◌≤◌, ◌+ℤ◌, ◌-ℤ◌, ◌≤ℤ◌, neg_ℤ, List, [], ◌∷◌, ◌++◌, get_or, sym, subst, arith}}, specs.Prelude.All}
use Rattle.stn_time.{specs.Time.horizon, proofs.Each.All-left}
use Rattle.stn_net.{specs.{Difference.{Difference, NamesEvents}, Schedule.{IsSchedule, HasSchedule, Meets}, Matrix.{Table.{Table, far_of}, Tightest.IsExact, Closed.{IsShortest, IsClosed}, Way.{shorter, narrower, IsImplied, HasRoom}}}, proofs.Tightest.{IsTight, tight_from_exact, exact_from_tight}}

-- the shortest differences stay so by way of a link that closes no negative cycle
pub shorter-shortest : (events : ℕ) (far : ℕ → ℕ → ℤ) (u v : ℕ) (w : ℤ) → IsShortest events far → u ≤ events → v ≤ events → pos 0 ≤ℤ (far v u +ℤ w)
    → IsShortest events (shorter far u v w)
shorter-shortest events far u v w shortest us vs round = record {
  itself = λ x xs.
      let same = shortest.itself x xs in
      let back = shortest.triangle v x u vs xs us in
      omega (arith, ints, clamps);
  triangle = λ x y z xs ys zs.
      let a = shortest.triangle x y z xs ys zs in
      let b = shortest.triangle v y z vs ys zs in
      let c = shortest.triangle x y u xs ys us in
      let d = shortest.triangle v y u vs ys us in
      omega (arith, ints, clamps);
}

-- and a closed square closed
pub shorter-closed : (events : ℕ) (far : ℕ → ℕ → ℤ) (u v : ℕ) (w : ℤ) → IsClosed events far → u ≤ events → v ≤ events → pos 0 ≤ℤ (far v u +ℤ w)
    → IsClosed events (shorter far u v w)
shorter-closed events far u v w closed us vs round = search (rules, ints, shorter-shortest)

-- nor does a row whose way to the link's end is no shorter by the link
pub shorter-kept_row : (events : ℕ) (far : ℕ → ℕ → ℤ) (u v : ℕ) (w : ℤ) → IsClosed events far → v ≤ events
    → (x y : ℕ) → x ≤ events → y ≤ events → far x v ≤ℤ (far x u +ℤ w) → shorter far u v w x y ≡ far x y
shorter-kept_row events far u v w closed vs x y xs ys longer =
    let onward = closed.shortest.triangle x v y xs vs ys in
    omega (arith, ints, clamps)

-- the way by the upper link leaves room for the lower one
pub lower_round : (events : ℕ) (far : ℕ → ℕ → ℤ) (b : Difference) → IsShortest events far → NamesEvents events b → b.lo ≤ℤ b.hi → HasRoom far b
    → pos 0 ≤ℤ (shorter far b.from b.to b.hi b.from b.to +ℤ neg_ℤ b.lo)
lower_round events far b shortest named ordered room = grind (arith, common_steps)

-- the same by a bound that has room
pub narrower-shortest : (events : ℕ) (far : ℕ → ℕ → ℤ) (b : Difference) → IsShortest events far → NamesEvents events b → b.lo ≤ℤ b.hi → HasRoom far b
    → IsShortest events (narrower far b)
narrower-shortest events far b shortest named ordered room = search (rules, shorter-shortest, lower_round)

pub narrower-closed : (events : ℕ) (far : ℕ → ℕ → ℤ) (b : Difference) → IsClosed events far → NamesEvents events b → b.lo ≤ℤ b.hi → HasRoom far b
    → IsClosed events (narrower far b)
narrower-closed events far b closed named ordered room = search (rules, ints, narrower-shortest)

-- a schedule of a longer list is one of its front, and meets the last bound
pub schedule_before : (bounds more : List Difference) (time : ℕ → ℤ) → IsSchedule (bounds ++ more) time → IsSchedule bounds time
schedule_before bounds more time s = search (rules, All-left)

pub schedule_last : (bounds : List Difference) (b : Difference) (time : ℕ → ℤ) → IsSchedule (bounds ++ b ∷ []) time → Meets time b
schedule_last bounds b time s = grind (arith, common_steps)

-- equal entries are alike
pub shortest_same : (events : ℕ) (far other : ℕ → ℕ → ℤ) → ((x y : ℕ) → x ≤ events → y ≤ events → other x y ≡ far x y) → IsShortest events far → IsShortest events other
shortest_same events far other same shortest = grind (arith)

pub closed_same : (events : ℕ) (far other : ℕ → ℕ → ℤ) → ((x y : ℕ) → x ≤ events → y ≤ events → other x y ≡ far x y) → IsClosed events far → IsClosed events other
closed_same events far other same closed = search rules

pub tight_same : (bounds : List Difference) (events : ℕ) (far other : ℕ → ℕ → ℤ) → All (NamesEvents events) bounds
    → ((x y : ℕ) → x ≤ events → y ≤ events → other x y ≡ far x y) → IsTight bounds events far → IsTight bounds events other
tight_same bounds events far other named same tight = grind (arith)

-- a difference by way of a link is sound where the link is
shorter_sound : (time : ℕ → ℤ) (events : ℕ) (far : ℕ → ℕ → ℤ) (u v : ℕ) (w : ℤ) → u ≤ events → v ≤ events
    → ((x y : ℕ) → x ≤ events → y ≤ events → (time y -ℤ time x) ≤ℤ far x y) → (time v -ℤ time u) ≤ℤ w
    → (x y : ℕ) → x ≤ events → y ≤ events → (time y -ℤ time x) ≤ℤ shorter far u v w x y
shorter_sound time events far u v w us vs sound link x y xs ys =
    let here = sound x y xs ys in
    let before = sound x u xs us in
    let after = sound v y vs ys in
    omega (arith, ints, clamps)

narrower_sound : (time : ℕ → ℤ) (events : ℕ) (far : ℕ → ℕ → ℤ) (b : Difference) → NamesEvents events b
    → ((x y : ℕ) → x ≤ events → y ≤ events → (time y -ℤ time x) ≤ℤ far x y) → Meets time b
    → (x y : ℕ) → x ≤ events → y ≤ events → (time y -ℤ time x) ≤ℤ narrower far b x y
narrower_sound time events far b named sound met =
    shorter_sound time events (shorter far b.from b.to b.hi) b.to b.from (neg_ℤ b.lo) named.to named.from
    (shorter_sound time events far b.from b.to b.hi named.from named.to sound met.1) (omega (arith, ints, met.0))

-- no entry gets longer
narrower_at_most : (far : ℕ → ℕ → ℤ) (b : Difference) (x y : ℕ) → narrower far b x y ≤ℤ far x y
narrower_at_most far b x y = omega (arith, ints, clamps)

narrower_implied : (events : ℕ) (far : ℕ → ℕ → ℤ) (b : Difference) → IsShortest events far → NamesEvents events b → IsImplied (narrower far b) b
narrower_implied events far b shortest named = search rules

-- a tight square is tight for one more bound by way of its links
pub narrower-tight : (bounds : List Difference) (events : ℕ) (far : ℕ → ℕ → ℤ) (b : Difference) → IsShortest events far → NamesEvents events b
    → IsTight bounds events far → IsTight (bounds ++ b ∷ []) events (narrower far b)
narrower-tight bounds events far b shortest named tight = record {
  sound = λ time s. narrower_sound time events far b named (tight.sound time (schedule_before bounds (b ∷ []) time s)) (schedule_last bounds b time s);
  implied = All-push (IsImplied (narrower far b)) bounds b (λ k d h.
      let at = get_or bounds k d in
      let forth = narrower_at_most far b at.from at.to in
      let back = narrower_at_most far b at.to at.from in
      let implied = tight.implied k d h in
      record { upper = omega (arith, ints); lower = omega (arith, ints) }) (narrower_implied events far b shortest named);
}

-- a tight square is tight for an implied bound as it is
pub implied-tight : (bounds : List Difference) (events : ℕ) (far : ℕ → ℕ → ℤ) (b : Difference) → IsImplied far b
    → IsTight bounds events far → IsTight (bounds ++ b ∷ []) events far
implied-tight bounds events far b implied tight = record {
  sound = λ time s. tight.sound time (schedule_before bounds (b ∷ []) time s);
  implied = All-push (IsImplied far) bounds b tight.implied implied;
}

-- where the list followed by the bound has a schedule, the bound has room
pub room_from_schedule : (bounds : List Difference) (table : Table) (b : Difference) → NamesEvents table.events b → IsExact bounds table → HasSchedule (bounds ++ b ∷ []) → HasRoom (far_of table) b
room_from_schedule bounds table b named exact s =
    let before = schedule_before bounds (b ∷ []) s.0 s.1 in
    let met = schedule_last bounds b s.0 s.1 in
    let forth = (exact.far b.from b.to named.from named.to).bound s.0 before in
    let back = (exact.far b.to b.from named.to named.from).bound s.0 before in
    record { upper = omega (arith, ints); lower = omega (arith, ints) }

-- the table by way of the bound's links is exact for the list followed by the bound
pub exact_narrower : (bounds : List Difference) (table other : Table) (b : Difference) → NamesEvents table.events b
    → IsShortest table.events (far_of table) → IsShortest other.events (far_of other)
    → other.events ≡ table.events → ((x y : ℕ) → x ≤ table.events → y ≤ table.events → far_of other x y ≡ narrower (far_of table) b x y)
    → IsExact bounds table → IsExact (bounds ++ b ∷ []) other
exact_narrower bounds table other b ends shortest other_shortest events same exact =
    let named : All (NamesEvents table.events) (bounds ++ b ∷ []) = All-push (NamesEvents table.events) bounds b exact.named ends in
    let tight : IsTight (bounds ++ b ∷ []) table.events (far_of other) =
    tight_same (bounds ++ b ∷ []) table.events (narrower (far_of table) b) (far_of other) named same
    (narrower-tight bounds table.events (far_of table) b shortest ends (tight_from_exact bounds table exact)) in
    exact_from_tight (bounds ++ b ∷ []) other (rw events named) other_shortest (subst (λ n. IsTight (bounds ++ b ∷ []) n (far_of other)) (sym events) tight)

-- no entry of a closed square is beyond the horizon, on either side of 0
pub closed_within : (events : ℕ) (far : ℕ → ℕ → ℤ) → IsClosed events far → (x y : ℕ) → x ≤ events → y ≤ events
    → (neg_ℤ horizon ≤ℤ far x y) × (far x y ≤ℤ horizon)
closed_within events far closed x y xs ys =
    let itself = closed.shortest.itself x xs in
    let round = closed.shortest.triangle x y x xs ys xs in
    let most = closed.most y x ys xs in
    (omega (arith, ints), closed.most x y xs ys)

-- the other table is the table, tightened by a bound
pub record IsTightened (table other : Table) (b : Difference) : Type 0 where
  pub closed : IsClosed other.events (far_of other)
  pub events : other.events ≡ table.events
  pub exact : (bounds : List Difference) → IsExact bounds table → IsExact (bounds ++ b ∷ []) other

-- an implied bound tightens nothing
pub tightened_implied : (table other : Table) (b : Difference) → IsClosed table.events (far_of table) → NamesEvents table.events b → IsImplied (far_of table) b
    → other.events ≡ table.events → other.entries ≡ table.entries → IsTightened table other b
tightened_implied table other b closed named implied events entries =
    let here : IsClosed other.events (far_of other) = rw (events, entries) closed in
    record {
      closed = here;
      events = events;
      exact = λ bounds exact. exact_from_tight (bounds ++ b ∷ []) other (rw events (All-push (NamesEvents table.events) bounds b exact.named named)) here.shortest
          (rw (events, entries) (implied-tight bounds table.events (far_of table) b implied (tight_from_exact bounds table exact)));
    }

-- the differences by way of the bound's sides tighten the table
pub tightened_narrower : (table other : Table) (b : Difference) → IsClosed table.events (far_of table) → NamesEvents table.events b
    → other.events ≡ table.events → IsClosed table.events (far_of other)
    → ((x y : ℕ) → x ≤ table.events → y ≤ table.events → far_of other x y ≡ narrower (far_of table) b x y) → IsTightened table other b
tightened_narrower table other b closed named events here same =
    let other_closed = subst (λ n. IsClosed n (far_of other)) (sym events) here in
    record {
      closed = other_closed;
      events = events;
      exact = λ bounds exact. exact_narrower bounds table other b named closed.shortest other_closed.shortest events same exact;
    }
