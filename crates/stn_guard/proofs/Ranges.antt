-- A function of each event.
use Rattle.std.{proofs.{Common.{rules, ◌≡◌, ℕ, ◌<◌, ◌≤◌, map, All}, lemmas.List.{same_lists, FromFn.{length-map-range_with_len, get_or-map-range_with_len}}}, specs.List.range_with_len}

module _ {X : Type 0} (f : ℕ → X) (events : ℕ) where
  -- what holds of each event's value holds of all
  pub all_in_range : (P : X → Type 0) → ((event : ℕ) → 0 < event → event ≤ events → P (f event)) → All P (map f (range_with_len 1 events))
  all_in_range P each k d below = search (rules, length-map-range_with_len, get_or-map-range_with_len)

  -- functions that agree on each event
  pub same_in_range : {g : ℕ → X} → ((event : ℕ) → 0 < event → event ≤ events → f event ≡ g event) → map f (range_with_len 1 events) ≡ map g (range_with_len 1 events)
  same_in_range same = search (rules, same_lists, length-map-range_with_len, get_or-map-range_with_len)
