-- Bounds on starts of which a search takes some.
use Rattle.std.proofs.{Common.{rules, ◌≡◌, ◌≢◌, ℕ, ◌+◌, ◌<◌, ◌≤◌, ℤ, pos, neg_ℤ, ◌-ℤ◌, ◌≤ℤ◌, List, [], ◌∷◌, ◌++◌, length, map, take, refl, sym, ap, subst, ◌∙◌, arith, append_assoc, length-append, All}, lemmas.{Int.ints, List.{take_more, take_all, length-map, get_or_append_left, get_or_push, Elements.{All-head, All-push}}}}
use Rattle.stn_time.specs.Time.{horizon}
use Rattle.stn_net.{specs.{Difference.{Difference, NamesEvents}, Horizon.horizon_bounds, Schedule.{Meets, IsSchedule, HasSchedule}}, proofs.{Closure.schedule_before, Schedules.met_behind}}
use Rattle.stn_conflict.specs.{declared.links.Link.Link, Arcs.{Arc, arc_of, bound_at, IsChain, weight_of, IsNegativeCycle}}
use Rattle.stn_loosen.{specs.{Starting.{IsStart, AreCrossed, ArePlaced, AreChosen, link_moved}, Stepped.IsBoundOf}, proofs.Sides.apart_within}

-- ---- links at their places
module _ (all bounds : List Difference) (places : List ℕ) (are : ArePlaced all bounds places) where
  same_arc : (link : Link) → link.place < length bounds → arc_of all (link_moved places link) ≡ arc_of bounds link
  same_arc link there = cc ((are link.place there).1)

  placed_chain : (links : List Link) (x y : ℕ) → IsChain bounds links x y → IsChain all (map (link_moved places) links) x y
  placed_chain [] x y chain = chain
  placed_chain (link ∷ links) x y (there, from, rest) =
      let same = same_arc link there in (
        (are link.place there).0,
        ap (λ (a : Arc). a.from) same ∙ from,
        subst (λ (a : Arc). IsChain all (map (link_moved places) links) a.to y) (sym same) (placed_chain links _ y rest),
      )

  placed_weight : (links : List Link) (x y : ℕ) → IsChain bounds links x y → weight_of all (map (link_moved places) links) ≡ weight_of bounds links
  placed_weight [] x y chain = refl
  placed_weight (link ∷ links) x y (there, from, rest) = cc (same_arc link there, placed_weight links _ y rest)

  pub placed_cycle : (links : List Link) → IsNegativeCycle bounds links → IsNegativeCycle all (map (link_moved places) links)
  placed_cycle links cycle = search (rules, length-map, placed_chain, placed_weight)

module _ (all : List Difference) (place : ℕ) (there : place < length all) where
  pub crossed_cycle : (links : List Link) → length links ≢ 0 → AreCrossed (bound_at all place) place links → IsNegativeCycle all links
  crossed_cycle [] some are = absurd (some refl)
  crossed_cycle (link ∷ []) some are = search rules
  crossed_cycle (link ∷ other ∷ []) some are = search rules
  crossed_cycle (link ∷ other ∷ third ∷ more) some are = absurd are

-- ---- a bound that is left out
module _ (events : ℕ) (others : List Difference) (bound : Difference) (start : IsStart events bound) (time : ℕ → ℤ) (schedule : IsSchedule (horizon_bounds events ++ others) time) where
  inside : (neg_ℤ horizon ≤ℤ (time bound.to -ℤ time bound.from)) × ((time bound.to -ℤ time bound.from) ≤ℤ horizon)
  inside = apart_within (record { events = events; records = others }) bound start.named time schedule

  -- it is a bound of the plan where its sides lie within the horizon; where one of them doesn't, the horizon's imply it
  pub left_out_met : (place : ℕ) → AreCrossed bound place [] → ¬ IsBoundOf events bound → Meets time bound
  left_out_met place whole none = search (rules, ints, inside)

-- ---- one bound after the other
abbrev nothing : Difference
nothing = record { from = 0; to = 0; lo = pos 0; hi = pos 0 }

placed_push : (all bounds : List Difference) (places : List ℕ) → length places ≡ length bounds → ArePlaced all bounds places → (bound : Difference) (place : ℕ) → place < length all
    → bound ≡ bound_at all place → ArePlaced all (bounds ++ bound ∷ []) (places ++ place ∷ [])
placed_push all bounds places long are bound place there is = search (rules, get_or_append_left, length-append, get_or_push)

module _ (events : ℕ) (all : List Difference) where
  module _ (place : ℕ) (chosen : List Difference) (places : List ℕ) (are : AreChosen events all place chosen places) (there : place < length all) where
    more : take (place + 1) all ≡ take place all ++ bound_at all place ∷ []
    more = take_more all place _ there

    one_more : (others : List Difference) → ((time : ℕ → ℤ) → IsSchedule (horizon_bounds events ++ others) time → All (Meets time) (take place all) × Meets time (bound_at all place))
        → (time : ℕ → ℤ) → IsSchedule (horizon_bounds events ++ others) time → All (Meets time) (take (place + 1) all)
    one_more others met time schedule =
        let each = met time schedule in
        subst (All (Meets time)) (sym more) (All-push (Meets time) (take place all) (bound_at all place) each.0 each.1)

    pub chosen_left_out : ((time : ℕ → ℤ) → IsSchedule (horizon_bounds events ++ chosen) time → Meets time (bound_at all place)) → AreChosen events all (place + 1) chosen places
    chosen_left_out met = record {
      named = are.named;
      counted = are.counted;
      placed = are.placed;
      met = one_more chosen (λ time schedule. (are.met time schedule, met time schedule));
    }

    module _ (bound : Difference) (is : bound ≡ bound_at all place) (named : NamesEvents events bound) where
      whole : horizon_bounds events ++ (chosen ++ bound ∷ []) ≡ (horizon_bounds events ++ chosen) ++ bound ∷ []
      whole = sym (append_assoc (horizon_bounds events) chosen (bound ∷ []))

      pub chosen_more : AreChosen events all (place + 1) (chosen ++ bound ∷ []) (places ++ place ∷ [])
      chosen_more = record {
        named = All-push (NamesEvents events) chosen bound are.named named;
        counted = omega (arith, are.counted, length-append places (place ∷ []), ap length whole, length-append (horizon_bounds events ++ chosen) (bound ∷ []));
        placed = subst (λ l. ArePlaced all l (places ++ place ∷ [])) (sym whole) (placed_push all (horizon_bounds events ++ chosen) places are.counted are.placed bound place there is);
        met = one_more (chosen ++ bound ∷ []) (λ time schedule.
            let front : IsSchedule ((horizon_bounds events ++ chosen) ++ bound ∷ []) time = subst (λ l. IsSchedule l time) whole schedule in (
              are.met time (schedule_before (horizon_bounds events ++ chosen) (bound ∷ []) time front),
              subst (Meets time) is (All-head (Meets time) bound [] (met_behind (horizon_bounds events ++ chosen) (bound ∷ []) time front)),
            ));
      }

  -- all were looked at
  pub all_met : (chosen : List Difference) (places : List ℕ) (count : ℕ) → length all ≤ count → AreChosen events all count chosen places → HasSchedule (horizon_bounds events ++ chosen) → HasSchedule all
  all_met chosen places count whole are s = search (rules, take_all)
