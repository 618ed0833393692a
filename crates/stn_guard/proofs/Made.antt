-- The guard that is made of bounds guards them.
use Rattle.std.{proofs.{Common.{rules, ◌≡◌, ◌≢◌, ℕ, zero, suc, ◌+◌, ◌-◌, ◌<◌, ◌≤◌, ℤ, pos, ◌≤ℤ◌, Bool, true, false, ◌&&◌, List, [], ◌∷◌, ◌++◌, length, get_or, take, map, inl, inr, refl, sym, subst, arith}, lemmas.{Int.ints, Bool.{eq-eqb, and_from, Decides.eqb_tells}, List.{Folds.list_any_at, FromFn.{length-map-range_with_len, get_or-map-range_with_len}, Elements.{All-head, All-append, All-take, All-filter}}}}, specs.{Prelude.All, List.range_with_len}}
use Rattle.stn_site.proofs.Live.{All-passing}
use Rattle.stn_time.{proofs.Each.{All-left, All-right}, specs.Time.horizon}
use Rattle.stn_net.specs.{Difference.{Difference, NamesEvents}, Horizon.{horizon_bound, horizon_bounds}, Schedule.{Meets, IsSchedule, HasSchedule}, Windows.Window.IsInWindow}
use Rattle.stn_guard.{specs.{Splitting.Implies, Owners.{is_owned, own_bounds, is_shared}, Guard.Guards, Making.{shared_arcs, window_bound, names_event, says_more, AreSharedWindows, IsGuardOf}}, proofs.{Ranges.all_in_range, Owned.{sides_all, sides_each, at_owner, at_origin, own_or_shared, shared_parts}, Gluing.own_met, Split.{IsApart, AreLeft, are_left}}}

-- each horizon bound is one of them
pub all_horizon : (P : Difference → Type 0) (events : ℕ) → All P (horizon_bounds events) → (event : ℕ) → 0 < event → event ≤ events → P (horizon_bound event)
unfolding horizon_bounds
all_horizon P zero all event after most = absurd (omega arith)
all_horizon P (suc events) all event after most = elim (eqb_tells event (suc events)) [
  | inl same ↦ subst (λ e. P (horizon_bound e)) (sym same.1)
      (All-head P (horizon_bound (suc events)) [] (All-right P (horizon_bounds events) (horizon_bound (suc events) ∷ []) all))
  | inr differs ↦ all_horizon P events (All-left P (horizon_bounds events) (horizon_bound (suc events) ∷ []) all) event after (omega (arith, differs.1))
]

-- a schedule meets both sides of each bound
pub arcs_implied : (owner : ℕ → ℕ) {bounds : List Difference} → All (Implies bounds) (shared_arcs owner bounds)
arcs_implied owner {bounds} = sides_all owner bounds (Implies bounds) (λ k d h shared. (
  (λ time schedule. (let met = schedule.met k d h in omega (arith, ints, met.1))),
  (λ time schedule. (let met = schedule.met k d h in omega (arith, ints, met.0))),
))

-- a shared bound names its events
named_ends : (owner : ℕ → ℕ) (bounds : List Difference) → All (λ b. is_shared owner b ≡ true → (names_event owner bounds b.from ≡ true) × (names_event owner bounds b.to ≡ true)) bounds
named_ends owner bounds = search (rules, list_any_at, eq-eqb)

-- a bound that says no more than the horizon
says_less : (b : Difference) → says_more b ≡ false → (b.lo ≤ℤ pos 0) × (horizon ≤ℤ b.hi)
says_less b less = search rules

module _ (owner : ℕ → ℕ) (events : ℕ) (bounds within windows : List Difference) (are : AreSharedWindows owner events bounds within windows) where
  abbrev told : Difference → Bool
  told bound = names_event owner bounds bound.to && says_more bound

  abbrev window_at : ℕ → Difference
  window_at event = window_bound event (are.ends event)

  -- what holds of all windows holds of that of an event
  windows_have : (P : Difference → Type 0) → All P windows → {event : ℕ} → 0 < event → event ≤ events → names_event owner bounds event ≡ true
      → says_more (window_at event) ≡ true → P (window_at event)
  windows_have P all {event} after most named more =
      let passing = All-passing told P (map window_at (range_with_len 1 events)) (subst (All P) are.windows_are all) in
      let place : event - 1 < length (map window_at (range_with_len 1 events)) = omega (arith, length-map-range_with_len window_at 1 events) in
      let at = get_or-map-range_with_len window_at 1 events (event - 1) event (window_at event) (omega arith) (omega arith) in
      subst (λ b. told b ≡ true → P b) at (passing (event - 1) (window_at event) place) (and_from _ _ named more)

  -- what holds of the window of each event holds of all windows
  pub windows_all : (P : Difference → Type 0) → ((event : ℕ) → 0 < event → event ≤ events → P (window_at event)) → All P windows
  windows_all P each = subst (All P) (sym are.windows_are) (All-filter told P (map window_at (range_with_len 1 events)) (all_in_range window_at events P each))

  -- times that meet the windows and the horizon come within them
  times_within : (time : ℕ → ℤ) → time 0 ≡ pos 0 → All (Meets time) windows → ((event : ℕ) → 0 < event → event ≤ events → Meets time (horizon_bound event))
      → {event : ℕ} → 0 < event → event ≤ events → names_event owner bounds event ≡ true → IsInWindow within event (time event)
  times_within time origin met far {event} after most named = by (says_more (window_at event)) refl
    where
      by : (test : Bool) → says_more (window_at event) ≡ test → IsInWindow within event (time event)
      by true e =
          let here = windows_have (Meets time) met after most named e in
          (are.true_ends event most (time event)).1 (omega (arith, ints, here.0), omega (arith, ints, here.1))
      by false e =
          let less = says_less (window_at event) e in
          let here = far event after most in
          (are.true_ends event most (time event)).1 (omega (arith, ints, here.0, less.0), omega (arith, ints, here.1, less.1))

  -- a schedule of the bounds within meets the windows
  windows_met : {time : ℕ → ℤ} → IsSchedule within time → All (Meets time) windows
  windows_met {time} schedule = windows_all (Meets time) (λ event after most.
      let there = (are.true_ends event most (time event)).0 (time, schedule, refl) in
      let origin = schedule.origin in
      (omega (arith, ints, there.0), omega (arith, ints, there.1)))

-- what is known of bounds and the guard that is made of them
pub record IsMade (owner : ℕ → ℕ) (events : ℕ) (bounds guard : List Difference) : Type 0 where
  pub possible : HasSchedule bounds
  pub named : All (NamesEvents events) bounds
  pub begins : take events bounds ≡ horizon_bounds events
  pub made : IsGuardOf owner events bounds guard

module _ (owner : ℕ → ℕ) (events : ℕ) (bounds guard : List Difference) (is : IsMade owner events bounds guard) where
  abbrev split : List Difference
  split = is.made.split

  left : AreLeft bounds (shared_arcs owner bounds) split
  left = search (rules, are_left, arcs_implied)

  -- what is met of each horizon bound
  horizon_met : (P : Difference → Type 0) → All P bounds → (event : ℕ) → 0 < event → event ≤ events → P (horizon_bound event)
  horizon_met P all = all_horizon P events (subst (All P) is.begins (All-take P events bounds all))

  -- the events of a shared bound come within their windows
  shared_within : (time : ℕ → ℤ) → time 0 ≡ pos 0 → All (Meets time) guard → ((event : ℕ) → 0 < event → event ≤ events → Meets time (horizon_bound event))
      → All (λ b. is_shared owner b ≡ true → IsInWindow split b.from (time b.from) × IsInWindow split b.to (time b.to)) bounds
  shared_within time origin met far = λ k d h shared.
      let b = get_or bounds k d in
      let parts = shared_parts owner b shared in
      let ends = named_ends owner bounds k d h shared in
      let most = is.named k d h in (
        times_within owner events bounds split guard is.made.windows time origin met far (omega (arith, parts.0)) most.from ends.0,
        times_within owner events bounds split guard is.made.windows time origin met far (omega (arith, parts.1)) most.to ends.1,
      )

  -- so they meet it
  shared_met : (time : ℕ → ℤ) → time 0 ≡ pos 0 → All (Meets time) guard → ((event : ℕ) → 0 < event → event ≤ events → Meets time (horizon_bound event))
      → All (λ b. is_shared owner b ≡ true → Meets time b) bounds
  shared_met time origin met far = λ k d h shared.
      let b = get_or bounds k d in
      let there = shared_within time origin met far k d h shared in
      let sides = sides_each owner bounds (IsApart split) left.apart k d h shared in
      let above = sides.0 there.0.0 there.1.0 there.0.1 there.1.1 in
      let below = sides.1 there.1.0 there.0.0 there.1.1 there.0.1 in
      let from_same = there.0.2 in
      let to_same = there.1.2 in
      (omega (arith, ints, below), omega (arith, ints, above))

  -- the schedules once all is split are those of the bounds with the guard
  guarded_from_split : {time : ℕ → ℤ} → IsSchedule split time → IsSchedule (bounds ++ guard) time
  guarded_from_split {time} schedule = record {
    origin = schedule.origin;
    met = All-append (Meets time) bounds guard (left.before time schedule).met (windows_met owner events bounds split guard is.made.windows schedule);
  }

  split_from_guarded : {time : ℕ → ℤ} → IsSchedule (bounds ++ guard) time → IsSchedule split time
  split_from_guarded {time} schedule =
      let met = All-left (Meets time) bounds guard schedule.met in
      let within = shared_within time schedule.origin (All-right (Meets time) bounds guard schedule.met) (horizon_met (Meets time) met) in
      left.after time (record { origin = schedule.origin; met = met })
      (sides_all owner bounds (λ arc. IsInWindow split arc.from (time arc.from) × IsInWindow split arc.to (time arc.to))
      (λ k d h shared. let there = within k d h shared in (there, (there.1, there.0))))

  -- a guard's bound is the own of its event's owner
  guard_met : {time : ℕ → ℤ} → ((site : ℕ) → IsSchedule (own_bounds owner site (bounds ++ guard)) time) → All (Meets time) guard
  guard_met {time} each = λ k d h.
      let b = get_or guard k d in
      let single = windows_all owner events bounds split guard is.made.windows (λ b. b.from ≡ 0) (λ event after most. refl) k d h in
      All-right (λ b. is_owned owner (owner (get_or guard k d).to) b ≡ true → Meets time b) bounds guard (own_met owner (owner b.to) (bounds ++ guard) (each (owner b.to))) k d h
      (and_from _ _ (at_origin owner (owner b.to) single) (at_owner owner b.to))

  enough : (time : ℕ → ℤ) → ((site : ℕ) → IsSchedule (own_bounds owner site (bounds ++ guard)) time) → IsSchedule (bounds ++ guard) time
  enough time each =
      let origin = (each 0).origin in
      let own : (site : ℕ) → All (λ b. is_owned owner site b ≡ true → Meets time b) bounds = (λ site.
      All-left (λ b. is_owned owner site b ≡ true → Meets time b) bounds guard (own_met owner site (bounds ++ guard) (each site))) in
      let far : (event : ℕ) → 0 < event → event ≤ events → Meets time (horizon_bound event) = (λ event after most.
      horizon_met (λ b. is_owned owner (owner event) b ≡ true → Meets time b) (own (owner event)) event after most
      (and_from _ _ (at_origin owner (owner event) refl) (at_owner owner event))) in
      let guarded = guard_met each in
      let shared = shared_met time origin guarded far in
      record {
        origin = origin;
        met = All-append (Meets time) bounds guard (λ k d h. elim (own_or_shared owner (get_or bounds k d)) [
          | inl mine ↦ own mine.0 k d h mine.1
          | inr ours ↦ shared k d h ours
        ]) guarded;
      }

  pub made_guard : Guards owner bounds guard
  made_guard = record {
    single = windows_all owner events bounds split guard is.made.windows (λ b. (b.from ≡ 0) × (b.to ≢ 0)) (λ event after most. (refl, λ origin. omega (arith, origin)));
    possible = (left.possible.0, guarded_from_split left.possible.1);
    enough = enough;
  }

  pub made_windows : AreSharedWindows owner events bounds (bounds ++ guard) guard
  made_windows = record {
    ends = is.made.windows.ends;
    true_ends = λ event most time.
        let ends = is.made.windows.true_ends event most time in (
          (λ there. ends.0 (there.0, split_from_guarded there.1, there.2)),
          (λ between. (let there = ends.1 between in (there.0, guarded_from_split there.1, there.2))),
        );
    windows_are = is.made.windows.windows_are;
  }
