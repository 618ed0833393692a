-- Which guard is made of a list of bounds.
use Rattle.std.specs.{Prelude.{◌≡◌, ℕ, ℤ, pos, neg_ℤ, ◌≤◌, ◌+ℤ◌, ◌-ℤ◌, int_lt, int_le, Bool, ◌&&◌, ◌||◌, ◌==◌, if◌then◌else◌, List, [], ◌∷◌, ◌++◌, map, filter, flat_map}, Int.{int_min, int_max, int_div_euclid}, List.{list_any, range_with_len}}
use Rattle.stn_time.specs.Time.{horizon}
use Rattle.stn_net.specs.{Difference.Difference, Windows.Window.IsWindow}
use Rattle.stn_guard.specs.{declared.splitting.Arc.Arc, Owners.is_shared}

-- what each side of a bound says, and both, the upper first
abbrev pub upper : Difference → Arc
upper bound = record { from = bound.from; to = bound.to; weight = bound.hi }

abbrev pub lower : Difference → Arc
lower bound = record { from = bound.to; to = bound.from; weight = neg_ℤ bound.lo }

abbrev pub arcs_of : Difference → List Arc
arcs_of bound = upper bound ∷ lower bound ∷ []

-- the sides of the shared bounds, in the order of the bounds
abbrev pub shared_arcs : (ℕ → ℕ) → List Difference → List Arc
shared_arcs owner bounds = flat_map arcs_of (filter (is_shared owner) bounds)

-- the event comes from the one time to the other
abbrev pub window_bound : ℕ → ℤ × ℤ → Difference
window_bound event ends = record { from = 0; to = event; lo = ends.0; hi = ends.1 }

-- where `from` and `to` come within these windows, `to` comes at most `weight` after `from`
abbrev pub is_implied : Arc → ℤ × ℤ → ℤ × ℤ → Bool
is_implied arc from to = int_le (to.1 -ℤ from.0) arc.weight

-- the time by which `to` is to come, in the middle of those that leave both events a time in their windows, rounded down
abbrev pub split_time : Arc → ℤ × ℤ → ℤ × ℤ → ℤ
split_time arc from to =
    int_div_euclid (int_max to.0 (from.0 +ℤ arc.weight) +ℤ int_min to.1 (from.1 +ℤ arc.weight)) (pos 2)

-- what splits an arc between events with these windows: nothing where the windows imply it; else that `to` comes by the
-- time in the middle, and `from` no earlier than `weight` before that
abbrev pub split_of : Arc → ℤ × ℤ → ℤ × ℤ → List Difference
split_of arc from to = if is_implied arc from to then [] else (window_bound arc.to (to.0, split_time arc from to)
    ∷ window_bound arc.from (split_time arc from to -ℤ arc.weight, from.1) ∷ [])

-- the bounds and what splits the arc, by the windows of its events in the bounds
pub record IsSplit (bounds : List Difference) (arc : Arc) (split : List Difference) : Type 0 where
  pub from : ℤ × ℤ
  pub to : ℤ × ℤ
  pub from_window : IsWindow bounds arc.from from.0 from.1
  pub to_window : IsWindow bounds arc.to to.0 to.1
  pub split_is : split ≡ bounds ++ split_of arc from to

-- the same for each of the arcs, one after the other
abbrev pub AreSplit : List Difference → List Arc → List Difference → Type 0
AreSplit bounds [] split = split ≡ bounds
AreSplit bounds (arc ∷ arcs) split = (next : List Difference) × IsSplit bounds arc next × AreSplit next arcs split

-- a shared bound names the event
abbrev pub names_event : (ℕ → ℕ) → List Difference → ℕ → Bool
names_event owner bounds event = list_any (λ bound. is_shared owner bound && ((bound.from == event) || (bound.to == event))) bounds

-- the bound says more of an event than the horizon does
abbrev pub says_more : Difference → Bool
says_more bound = int_lt (pos 0) bound.lo || int_lt bound.hi horizon

-- for each event that a shared bound names, in the order of the events, its window in the list `within`; those are left
-- out that say no more than the horizon
pub record AreSharedWindows (owner : ℕ → ℕ) (events : ℕ) (bounds within windows : List Difference) : Type 0 where
  pub ends : ℕ → ℤ × ℤ
  pub true_ends : (event : ℕ) → event ≤ events → IsWindow within event (ends event).0 (ends event).1
  pub windows_are : windows ≡ filter (λ bound. names_event owner bounds bound.to && says_more bound)
      (map (λ event. window_bound event (ends event)) (range_with_len 1 events))

-- the guard of the bounds: the windows of the events that shared bounds name, once each side of these was split
pub record IsGuardOf (owner : ℕ → ℕ) (events : ℕ) (bounds guard : List Difference) : Type 0 where
  pub split : List Difference
  pub are_split : AreSplit bounds (shared_arcs owner bounds) split
  pub windows : AreSharedWindows owner events bounds split guard
