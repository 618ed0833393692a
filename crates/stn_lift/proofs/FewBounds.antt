-- How many bounds a plan has.
use Rattle.std.{proofs.{Common.{rules, ◌≡◌, ℕ, ◌+◌, ◌-◌, ◌*◌, ◌<◌, ◌≤◌, ℤ, zero, suc, Bool, [], ◌∷◌, ◌++◌, length, get_or, ⊎_elim, refl, ap, ◌∙◌, arith, length-append}, lemmas.{Bool.{cases_lt}, List.{get_or_append_left, get_or_at}}}}
use Rattle.stn_net.{specs.{Event.most_steps, Difference.Difference}, proofs.Horizons.length-horizon_bounds}
use Rattle.stn_lift.{specs.{BaseBounds.{step_of, pair_order, event_orders, orders, duration_bound, duration_bounds}, PlanSource.most_base_bounds}, proofs.SoundBounds.bounds}

pub length-duration_bounds : (duration : ℕ → ℤ) (steps : ℕ) → length (duration_bounds duration steps) ≡ steps
unfolding duration_bounds
length-duration_bounds duration zero = refl
length-duration_bounds duration (suc steps) =
    omega (arith, length-append (duration_bounds duration steps) (duration_bound steps (duration steps) ∷ []), length-duration_bounds duration steps)

pub duration_at : (duration : ℕ → ℤ) (steps place : ℕ) (d : Difference) → place < steps → get_or (duration_bounds duration steps) place d ≡ duration_bound place (duration place)
unfolding duration_bounds
duration_at duration zero place d within = absurd (omega arith)
duration_at duration (suc steps) place d within =
    ⊎_elim
    (λ before. get_or_append_left (duration_bounds duration steps) (duration_bound steps (duration steps) ∷ []) d place (omega (arith, length-duration_bounds duration steps, before))
    ∙ duration_at duration steps place d before)
    (λ after. let same : steps ≡ place = omega (arith, after) in
    get_or_at (duration_bounds duration steps) (duration_bound steps (duration steps)) [] d place (length-duration_bounds duration steps ∙ same)
    ∙ ap (λ n. duration_bound n (duration n)) same)
    (cases_lt place steps)

module _ (interferes : ℕ → ℕ → Bool) (planned : ℕ → ℤ) where
  length-pair : (one other : ℕ) → length (pair_order interferes planned one other) ≤ 1
  length-pair one other = search rules

  -- and none with an event up to the end of its own step
  length-own : (one : ℕ) {other : ℕ} → other ≤ 2 * step_of one → length (pair_order interferes planned one other) ≡ 0
  length-own one own = search rules

  length-event : (one events : ℕ) → length (event_orders interferes planned one events) ≤ events - 2 * step_of one
  unfolding event_orders
  length-event one zero = omega arith
  length-event one (suc events) =
      let fewer = length-event one events in
      let all = length-append (event_orders interferes planned one events) (pair_order interferes planned one (suc events)) in
      ⊎_elim (λ beyond. let one_more = length-pair one (suc events) in omega (arith, beyond))
      (λ own. let none = length-own one own in omega (arith, own)) (cases_lt (2 * step_of one) (suc events))

  -- of the events of the first steps
  length-steps : (steps some : ℕ) → some ≤ steps → length (orders interferes planned (2 * steps) (2 * some)) + 2 * (some * (some + 1)) ≤ 4 * (steps * some)
  unfolding orders
  length-steps steps zero within = omega arith
  length-steps steps (suc some) within =
      let next : 2 * suc some ≡ suc (suc (2 * some)) = omega arith in
      let before = length-steps steps some (omega arith) in
      let start = length-event (suc (2 * some)) (2 * steps) in
      let end = length-event (suc (suc (2 * some))) (2 * steps) in
      let first = length-append (orders interferes planned (2 * steps) (2 * some)) (event_orders interferes planned (suc (2 * some)) (2 * steps)) in
      let second = length-append (orders interferes planned (2 * steps) (2 * some) ++ event_orders interferes planned (suc (2 * some)) (2 * steps)) (event_orders interferes planned (suc (suc (2 * some))) (2 * steps)) in
      rw next (omega arith)

  -- a plan has few enough bounds
  pub few_bounds : (duration : ℕ → ℤ) {steps : ℕ} → steps ≤ most_steps → length (bounds interferes planned duration steps) ≤ most_base_bounds
  few_bounds duration small = search (rules, length-steps, length-append, length-horizon_bounds, length-duration_bounds)
