-- What splitting one arc does to windows.
use Rattle.std.proofs.{Common.{rules, ◌≡◌, ℤ, ◌-ℤ◌, ◌≤ℤ◌, ◌<ℤ◌, true, false, cond, [], ◌∷◌, ◌++◌, refl, sym, ap, subst, ◌∙◌, arith, append-nil, append_assoc}, lemmas.{Int.ints, List.Elements.All-head}}
use Rattle.stn_net.{proofs.Closure.schedule_before, specs.{Difference.Difference, Schedule.HasSchedule, Windows.Window.IsWindow}}
use Rattle.stn_conflict.specs.Listing.{ListedBounds}
use Rattle.stn_guard.{specs.{declared.splitting.Arc.Arc, Making.{window_bound, is_implied, split_time, split_of}, Splitting.{LeavesTime, CanSplit, Splits}}, proofs.Split.{HasEnds, middle_leaves_time, splitting, splitting_possible}}

module _ (arc : Arc) (old : ListedBounds) (from to : ℤ × ℤ) (can : CanSplit (arc ∷ []) old) (from_window : IsWindow old.bounds arc.from from.0 from.1) (to_window : IsWindow old.bounds arc.to to.0 to.1) where
  -- what is known of the windows of the arc's events
  pub known : HasEnds old.bounds arc from to
  known = search (rules, All-head)

  -- bounds with what splits the arc
  splits_by : {new : ListedBounds} → new.events ≡ old.events → new.bounds ≡ old.bounds ++ split_of arc from to → Splits (arc ∷ []) old new
  splits_by events bounds = search rules

  -- where the windows imply the arc, nothing changes
  pub nothing_to_split : (to.1 -ℤ from.0) ≤ℤ arc.weight → Splits (arc ∷ []) old old
  nothing_to_split within =
      let implied : is_implied arc from to ≡ true = grind (arith, ints) in
      splits_by refl (sym (append-nil old.bounds) ∙ ap (λ t. old.bounds ++ cond t [] (splitting arc from to (split_time arc from to))) (sym implied))

  -- that `to` comes by the time in the middle, and `from` no earlier than `weight` before that
  abbrev pub comes_by : Difference
  comes_by = window_bound arc.to (to.0, split_time arc from to)

  abbrev pub comes_after : Difference
  comes_after = window_bound arc.from (split_time arc from to -ℤ arc.weight, from.1)

  module _ (wider : arc.weight <ℤ (to.1 -ℤ from.0)) where
    -- the time in the middle leaves both events a time
    pub leaves_known : LeavesTime arc from to (split_time arc from to)
    leaves_known = middle_leaves_time known wider

    -- both bounds can be taken, one after the other
    pub both_possible : HasSchedule ((old.bounds ++ comes_by ∷ []) ++ comes_after ∷ [])
    both_possible =
        subst HasSchedule (sym (append_assoc old.bounds (comes_by ∷ []) (comes_after ∷ []))) (splitting_possible old.bounds arc from to (split_time arc from to) known leaves_known)

    pub first_possible : HasSchedule (old.bounds ++ comes_by ∷ [])
    first_possible = let whole = both_possible in (whole.0, schedule_before (old.bounds ++ comes_by ∷ []) (comes_after ∷ []) whole.0 whole.1)

    -- and split it
    pub two_to_split : {new : ListedBounds} → new.events ≡ old.events → new.bounds ≡ (old.bounds ++ comes_by ∷ []) ++ comes_after ∷ [] → Splits (arc ∷ []) old new
    two_to_split {new} events bounds =
        let implied : is_implied arc from to ≡ false = grind (arith, ints) in
        splits_by events (bounds ∙ append_assoc old.bounds (comes_by ∷ []) (comes_after ∷ [])
        ∙ ap (λ t. old.bounds ++ cond t [] (splitting arc from to (split_time arc from to))) (sym implied))
