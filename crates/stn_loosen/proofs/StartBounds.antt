-- The bounds on starts, one after the other, and the lines of their links.
use Rattle.std.proofs.{lemmas.{Grind.common_steps, List.{append-nil, get_or_read, take_at, get_or-map, Elements.All-append}}, Common.{rules, ◌≡◌, inl, inr, ℕ, ◌+◌, ◌*◌, ◌<◌, ◌≤◌, List, [], ◌∷◌, ◌++◌, length, map, take, get_or, codes, refl, arith, append_assoc, length-append, All}}
use Rattle.stn_net.{specs.{Difference.{Difference, NamesEvents}, Event.event_text, Horizon.horizon_bounds, Schedule.{Meets, HasSchedule}}, proofs.{Horizons.length-horizon_bounds, Schedules.met_behind, Widest.{horizon_each, horizon_named}}}
use Rattle.stn_lift.specs.PlanSource.{PlanSource, events_of, IsSoundSource}
use Rattle.stn_time.specs.Text.{printed}
use Rattle.stn_conflict.specs.{declared.links.{Link.Link, Side.Side}, Arcs.bound_at}
use Rattle.stn_site.specs.{declared.names.BoundName.TheVariants.Plan, Names.name_text, Lines.{side_text, side_limit}}
use Rattle.stn_loosen.{specs.{declared.span.Span.Span, Slack.{Slack, IsSlack}, Moved.{moved_upper, moved_lower, moved_bounds}, Loosened.loose_durations, Robust.{loose_bounds, HasPromise}, Stepped.{as_bound, IsWithinReach, IsHalfOpen}, Starting.IsStart, Fragile.{start_bounds, origin_place, mover_text, with_sides, start_line}}, proofs.{Steps.source_steps, Looser.all_between, Settings.{moved_all, moved_each}, Sides.sides_named, Robustness.{starts_met, promise_iff}}}

-- the bound at a place of spans
pub span_at : (spans : List Span) (place : ℕ) (span : Span) → place < length spans → span ≡ get_or spans place span → bound_at (map as_bound spans) place ≡ as_bound span
span_at spans place span there is = cc (get_or-map as_bound spans place span _ there)

-- both sides of one more bound
module _ (old new : List Span) (upper lower : Span) (is : new ≡ (old ++ upper ∷ []) ++ lower ∷ []) where
  pub starts_reach : All IsWithinReach (map as_bound old) → IsWithinReach (as_bound upper) → IsWithinReach (as_bound lower) → All IsWithinReach (map as_bound new)
  starts_reach before first second = grind (arith, common_steps)

  pub starts_more : (front durations bounds : List Difference) (place : ℕ) (bound : Difference) → place < length bounds → bound ≡ get_or bounds place bound
      → as_bound upper ≡ moved_upper durations bound → as_bound lower ≡ moved_lower durations bound
      → map as_bound old ≡ front ++ moved_bounds durations (take place bounds) → map as_bound new ≡ front ++ moved_bounds durations (take (place + 1) bounds)
  starts_more front durations bounds place bound there here first second before = grind (arith, common_steps)

-- ---- what the bounds on starts are
length-moved_bounds : (durations bounds : List Difference) → length (moved_bounds durations bounds) ≡ 2 * length bounds
length-moved_bounds durations [] = refl
length-moved_bounds durations (bound ∷ bounds) = omega (arith, length-moved_bounds durations bounds)

module _ (source : PlanSource) (sound : IsSoundSource source) (slack : Slack) where
  abbrev events : ℕ
  events = events_of source

  abbrev durations : List Difference
  durations = loose_durations slack source

  abbrev bounds : List Difference
  bounds = loose_bounds source slack

  pub begins : take (events_of source) (start_bounds source slack) ≡ horizon_bounds (events_of source)
  begins = search (rules, take_at, length-horizon_bounds)

  pub are_starts : All IsWithinReach (start_bounds source slack) → All (IsStart (events_of source)) (start_bounds source slack)
  are_starts reach k d below = record {
    named = All-append (NamesEvents events) (horizon_bounds events) (moved_bounds durations bounds) (horizon_named events)
        (sides_named durations (source_steps slack source) events bounds (λ place e there. (all_between source sound slack place e there).named)) k d below;
    half = All-append IsHalfOpen (horizon_bounds events) (moved_bounds durations bounds) (horizon_each IsHalfOpen events (λ event some last. inr refl))
        (moved_all durations IsHalfOpen bounds (λ place e there. (inl refl, inr refl))) k d below;
    reach = reach k d below;
  }

  -- where they have a schedule, there is a promise
  pub starts_promise : IsSlack slack → HasSchedule (start_bounds source slack) → HasPromise source slack
  starts_promise is s = (
    s.0,
    (promise_iff source sound slack is s.0).1
        (starts_met source sound slack is s.0 s.1.origin (moved_each durations (Meets s.0) bounds (met_behind (horizon_bounds events) (moved_bounds durations bounds) s.0 s.1))),
  )

  pub counted : length (start_bounds source slack) ≡ events_of source + 2 * length (loose_bounds source slack)
  counted = simp (length-append, length-horizon_bounds, length-moved_bounds)

  pub some : events_of source ≤ length (loose_bounds source slack)
  some = search (rules, length-append, length-horizon_bounds)

-- the plan's bound that a bound on starts comes from
pub origin_at : (events : ℕ) (bounds : List Difference) (place at : ℕ) (bound : Difference) → events ≤ length bounds → place < events + 2 * length bounds → at ≡ origin_place events place
    → bound ≡ get_or bounds at bound → bound ≡ bound_at bounds (origin_place events place)
origin_at events bounds place at bound some there is here = search (rules, get_or_read)

-- a side of a bound with the sides of another
moved_limit : (bound moved : Difference) (side : Side) → side_limit (with_sides bound moved) side ≡ side_limit moved side
moved_limit bound moved side = cc

module _ (events : ℕ) (durations bounds starts : List Difference) (link : Link) where
  pub line_made : (number : ℕ) (bound moved : Difference) (out first second third : List ℕ) → number ≡ origin_place events link.place + 1
      → bound ≡ bound_at bounds (origin_place events link.place) → moved ≡ bound_at starts link.place
      → first ≡ out ++ (name_text (Plan number) ++ ((codes " " ++ (side_text link.side ++ codes " ")) ++ (event_text bound.from ++ (codes " " ++ (event_text bound.to ++ (codes " " ++ (printed (side_limit moved link.side) ++ [])))))))
      → second ≡ first ++ mover_text durations events link.place bound → third ≡ second ++ 10 ∷ [] → third ≡ out ++ start_line events durations bounds starts link
  line_made number bound moved out first second third number_is bound_is moved_is one two three = search (rules, append_assoc, append-nil, moved_limit bound moved link.side)
