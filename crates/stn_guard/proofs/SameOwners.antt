-- Owners that agree on the events that bounds name have the same guard.
use Rattle.std.{proofs.{Common.{rules, ◌≡◌, ℕ, ◌+◌, ◌<◌, ◌≤◌, Bool, ◌&&◌, ◌||◌, eqb, List, [], ◌∷◌, ◌++◌, get_or, map, refl, sym, ap, subst, ◌∙◌, arith}, lemmas.List.Elements.{All-head, All-tail, All-append}}, specs.{Prelude.{All, flat_map}, List.{list_any, range_with_len}}}
use Rattle.stn_net.specs.{Difference.{Difference, NamesEvents}, Schedule.IsSchedule}
use Rattle.stn_guard.{specs.{Owners.{is_owned, own_bounds, is_shared}, Guard.Guards, Making.{arcs_of, shared_arcs, window_bound, names_event, says_more, AreSplit, AreSharedWindows, IsGuardOf}}, proofs.{Made.windows_all, Whole.filter_same}}

any_same : {X : Type 0} (p q : X → Bool) (xs : List X) → All (λ x. p x ≡ q x) xs → list_any p xs ≡ list_any q xs
any_same p q [] same = refl
any_same p q (x ∷ xs) same = λ i. All-head (λ y. p y ≡ q y) x xs same i || any_same p q xs (All-tail (λ y. p y ≡ q y) x xs same) i

-- a guard names the events
pub guard_named : {owner : ℕ → ℕ} {events : ℕ} {bounds within guard : List Difference} → AreSharedWindows owner events bounds within guard → All (NamesEvents events) guard
guard_named {owner} {events} {bounds} {within} {guard} windows =
    windows_all owner events bounds within guard windows (NamesEvents events) (λ event after most. record { from = omega arith; to = most })

module _ (one other : ℕ → ℕ) (events : ℕ) (same : (event : ℕ) → 0 < event → event ≤ events → one event ≡ other event) where
  same_own : (site : ℕ) {bound : Difference} → NamesEvents events bound → is_owned one site bound ≡ is_owned other site bound
  same_own site named = search rules

  same_shared : {bound : Difference} → NamesEvents events bound → is_shared one bound ≡ is_shared other bound
  same_shared named = search rules

  module _ (bounds : List Difference) (named : All (NamesEvents events) bounds) where
    same_arcs : shared_arcs one bounds ≡ shared_arcs other bounds
    same_arcs = ap (flat_map arcs_of) (filter_same (is_shared one) (is_shared other) bounds (λ k d h. same_shared (named k d h)))

    same_named : (event : ℕ) → names_event one bounds event ≡ names_event other bounds event
    same_named event = any_same (λ bound. is_shared one bound && (eqb bound.from event || eqb bound.to event)) (λ bound. is_shared other bound && (eqb bound.from event || eqb bound.to event)) bounds
        (λ k d h. ap (λ t. t && (eqb (get_or bounds k d).from event || eqb (get_or bounds k d).to event)) (same_shared (named k d h)))

    abbrev windows : {guard : List Difference} → IsGuardOf one events bounds guard → List Difference
    windows is = map (λ event. window_bound event (is.windows.ends event)) (range_with_len 1 events)

    pub same_guard : {guard : List Difference} → IsGuardOf one events bounds guard → IsGuardOf other events bounds guard
    same_guard is = record {
      split = is.split;
      are_split = subst (λ arcs. AreSplit bounds arcs is.split) same_arcs is.are_split;
      windows = record {
        ends = is.windows.ends;
        true_ends = is.windows.true_ends;
        windows_are = is.windows.windows_are
            ∙ filter_same (λ bound. names_event one bounds bound.to && says_more bound) (λ bound. names_event other bounds bound.to && says_more bound) (windows is)
            (λ k d h. ap (λ t. t && says_more (get_or (windows is) k d)) (same_named (get_or (windows is) k d).to));
      };
    }

  pub same_guards : {bounds guard : List Difference} → All (NamesEvents events) bounds → All (NamesEvents events) guard → Guards one bounds guard → Guards other bounds guard
  same_guards {bounds} {guard} named guard_are guards = record {
    single = guards.single;
    possible = guards.possible;
    enough = λ time own. guards.enough time (λ site. subst (λ (l : List Difference). IsSchedule l time) (sym (own_same site)) (own site));
  }
    where
      own_same : (site : ℕ) → own_bounds one site (bounds ++ guard) ≡ own_bounds other site (bounds ++ guard)
      own_same site = filter_same (is_owned one site) (is_owned other site) (bounds ++ guard)
          (λ k d h. same_own site (All-append (NamesEvents events) bounds guard named guard_are k d h))
