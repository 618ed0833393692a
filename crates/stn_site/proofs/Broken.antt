-- The first of all bounds that times break.
use Rattle.std.{proofs.{Common.{rules, ◌≡◌, ℕ, ℤ, pos, ◌+◌, ◌<◌, nat_lt, Bool, true, false, not, cond, List, [], ◌∷◌, length, get_or, take, find, Option, Some, None, IsNone, is_some, refl, sym, ap, subst, ◌∙◌, arith, length-take, All}, lemmas.{Bool.false_from_ne_true, Option.none-some, List.{get_or-take, get_or_default, Sums.position_or_len_is, Elements.{All-nil, All-cons, All-head, All-tail, All-append}}}}, specs.{Prelude.{◌↔◌, position, option_map}, List.{position_or_len, HoldsAt}, Bool.Decides}}
use Rattle.stn_time.proofs.Each.{All-left, All-right}
use Rattle.stn_net.specs.{Difference.Difference, Schedule.{IsSchedule, Meets}}
use Rattle.stn_lift.specs.PlanSource.{PlanSource, base_bounds}
use Rattle.stn_records.specs.{Id.SiteCounter, declared.record.Record.Record as RecordOf, Content.{Content, live_of}}
use Rattle.stn_site.specs.{declared.names.BoundName.TheVariants.{Plan, Record}, Bounds.{all_bounds, bounds_of, live_bounds}, Names.{is_met, broken_record, broken_bound}}

module _ (time : ℕ → ℤ) where
  met_decides : (bound : Difference) → Decides (is_met time bound) (Meets time bound)
  met_decides bound = search rules

  -- the test of a bound that the times break
  abbrev is_broken : Difference → Bool
  is_broken bound = not (is_met time bound)

  any_bound : Difference
  any_bound = record { from = 0; to = 0; lo = pos 0; hi = pos 0 }

  place_of : (met count place : ℕ) → met ≡ place → place < count → cond (nat_lt met count) (Some met) None ≡ Some place
  place_of met count place e lt = grind arith

  no_place : (met count : ℕ) → met ≡ count → cond (nat_lt met count) (Some met) None ≡ None
  no_place met count e = grind arith

  -- one bound is broken where a search among it alone finds a place
  pub one_broken : (bound : Difference) (found : Option ℕ) → time 0 ≡ pos 0 → (IsNone found ↔ IsSchedule (bound ∷ []) time) → is_some found ≡ is_broken bound
  one_broken bound None origin told = cc ((met_decides bound).1 ((told.0 refl).met 0 bound (omega arith)))
  one_broken bound (Some place) origin told = search rules

  first_place : (bounds : List Difference) (place : ℕ) → place < length bounds → ¬ HoldsAt (Meets time) bounds place → All (Meets time) (take place bounds) → position is_broken bounds ≡ Some place
  first_place bounds place lt broken earlier =
      place_of (position_or_len is_broken bounds) (length bounds) place
      (position_or_len_is is_broken bounds place any_bound (omega arith)
      (λ k below. ap not ((met_decides (get_or bounds k any_bound)).1
      (subst (Meets time) (get_or-take place bounds k any_bound below) (earlier k any_bound (omega (arith, length-take place bounds))))))
      (λ _. ap not (false_from_ne_true (is_met time (get_or bounds place any_bound)) (λ e. broken (λ d. subst (Meets time) (get_or_default bounds place any_bound d lt)
      ((met_decides (get_or bounds place any_bound)).0 e))))))
      lt

  no_bound : (bounds : List Difference) → All (Meets time) bounds → position is_broken bounds ≡ None
  no_bound bounds met =
      no_place (position_or_len is_broken bounds) (length bounds)
      (position_or_len_is is_broken bounds (length bounds) any_bound (omega arith) (λ k lt. ap not ((met_decides (get_or bounds k any_bound)).1 (met k any_bound lt))) (λ lt. absurd (omega arith)))

  no_record : (records : List (SiteCounter × RecordOf)) → All (Meets time) (bounds_of records) → find (λ entry. is_broken entry.1.bound) records ≡ None
  no_record [] met = refl
  no_record (e ∷ records) met =
      cc ((met_decides e.1.bound).1 (All-head (Meets time) e.1.bound (bounds_of records) met), no_record records (All-tail (Meets time) e.1.bound (bounds_of records) met))

  all_met : (records : List (SiteCounter × RecordOf)) → find (λ entry. is_broken entry.1.bound) records ≡ None → All (Meets time) (bounds_of records)
  all_met [] none = All-nil (Meets time)
  all_met (e ∷ records) none =
      elim (is_met time e.1.bound) as (λ b. is_met time e.1.bound ≡ b → cond (not b) (Some e) (find (λ entry. is_broken entry.1.bound) records) ≡ None → All (Meets time) (bounds_of (e ∷ records))) [
        | true ↦ λ t n. All-cons (Meets time) e.1.bound (bounds_of records) ((met_decides e.1.bound).0 t) (all_met records n)
        | false ↦ λ t n. absurd (none-some e (sym n))
      ] refl none

  module _ (source : PlanSource) (state : Content) where
    -- where one of the plan's own is broken
    pub broken_in_plan : (place : ℕ) → place < length (base_bounds source) → ¬ HoldsAt (Meets time) (base_bounds source) place → All (Meets time) (take place (base_bounds source))
        → (Some (Plan (place + 1)) ≡ broken_bound source state time) × ¬ IsSchedule (all_bounds source state) time
    unfolding broken_bound
    broken_in_plan place within broken earlier = (
      cc (first_place (base_bounds source) place within broken earlier),
      λ schedule. broken (λ d. All-left (Meets time) (base_bounds source) (live_bounds state) schedule.met place d within),
    )

    -- where they break none of these, but the bound of a record
    pub broken_in_records : IsSchedule (base_bounds source) time → (id : SiteCounter) → Some id ≡ option_map (λ entry. entry.0) (broken_record state time)
        → (Some (Record id) ≡ broken_bound source state time) × ¬ IsSchedule (all_bounds source state) time
    unfolding broken_bound
    broken_in_records s id is = (
      ap (option_map (λ id. Record id)) is ∙ twice (broken_record state time) ∙ cc (no_bound (base_bounds source) s.met),
      λ schedule. none-some id (sym (is ∙ ap (option_map (λ entry. entry.0)) (no_record (live_of state) (All-right (Meets time) (base_bounds source) (live_bounds state) schedule.met)))),
    )
      where
        twice : (o : Option (SiteCounter × RecordOf)) → option_map (λ id. Record id) (option_map (λ entry. entry.0) o) ≡ option_map (λ entry. Record entry.0) o
        twice None = refl
        twice (Some entry) = refl

    -- and where they break none at all
    pub none_broken : IsSchedule (base_bounds source) time → None ≡ option_map (λ entry. entry.0) (broken_record state time)
        → (None ≡ broken_bound source state time) × IsSchedule (all_bounds source state) time
    unfolding broken_bound
    none_broken s none =
        let nothing = unmapped (broken_record state time) none in (
          cc (no_bound (base_bounds source) s.met, nothing),
          record { origin = s.origin; met = All-append (Meets time) (base_bounds source) (live_bounds state) s.met (all_met (live_of state) nothing) },
        )
      where
        unmapped : (o : Option (SiteCounter × RecordOf)) → None ≡ option_map (λ entry. entry.0) o → o ≡ None
        unmapped None e = refl
        unmapped (Some entry) e = absurd (none-some entry.0 e)
