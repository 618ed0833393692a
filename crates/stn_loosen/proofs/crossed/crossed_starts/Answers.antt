use Rattle.std.proofs.{lemmas.{List.{get_or-take, length-map, nil_from_length}, Bool.false≢true, Grind.common_steps}, Common.{rules, ◌≡◌, ◌≢◌, ◌<◌, [], ◌∷◌, ◌++◌, map, length, refl, sym, ap, subst, ◌∙◌, arith, eqb-true}}
use Rattle.stn_net.{proofs.Horizons.known_within, specs.{Difference.{Difference, NamesEvents}, Horizon.horizon_bounds, Schedule.{Meets, HasSchedule}}}
use Rattle.stn_conflict.specs.Arcs.{bound_at, IsNegativeCycle}
use Rattle.stn_loosen.{specs.{Starting.{IsStart, AreCrossed}, Stepped.as_bound}, proofs.{StartBounds.span_at, StartCycles.{placed_cycle, crossed_cycle, left_out_met, chosen_left_out, chosen_more, all_met}, crossed.crossed_starts.{Given.Over, Goals.{After-index-starts-place, in-Some+in_ok-push+in_ok-push-2, in_default}}}}
use Rattle.stn_loosen.proofs.crossed.crossed_starts.Goals as goal

pub loop-place-init : goal.loop-place-init
loop-place-init g c = search (rules, known_within, get_or-take)

-- the bound that is looked at
there : (g : Over) (c : After-index-starts-place g) → c.loop-place.place < length (map as_bound c.args.starts.now)
there g c = search (rules, length-map)

here : (g : Over) (c : After-index-starts-place g) → bound_at (map as_bound c.args.starts.now) c.loop-place.place ≡ as_bound c.index-starts-place.result
here g c = grind (arith, span_at, there, length-map)

start : (g : Over) (c : After-index-starts-place g) → IsStart c.args.events (as_bound c.index-starts-place.result)
start g c = subst (IsStart c.args.events) (here g c) (c.requires.sound c.loop-place.place _ (there g c))

pub returns-then-not-is_empty : goal.returns-then-not-is_empty
returns-then-not-is_empty g c =
    let at = (goal.at.returns-then-not-is_empty g c).After-index-starts-place in
    let links = c.in_ok-own.own.items in
    let long : c.in_ok-own.own.len ≡ length links = omega (arith, c.in_ok-own.own.ok.0) in
    let some : length links ≢ 0 = search rules in
    crossed_cycle (map as_bound c.args.starts.now) c.loop-place.place (there g at) links some
    (subst (λ (b : Difference). AreCrossed b c.loop-place.place links) (sym (here g at)) c.in_ok-own.ensures)

pub bound-requires : goal.bound-requires
bound-requires g c = (start g (goal.at.bound-requires g c).After-index-starts-place).reach

pub loop-place-preserved : goal.loop-place-preserved
loop-place-preserved g c =
    let at = (goal.at.loop-place-preserved g c).After-index-starts-place in
    let events = c.args.events in
    let all = map as_bound c.args.starts.now in
    let place = c.loop-place.place in
    let chosen = c.loop-place.chosen.items in
    let places = c.loop-place.places.items in
    let span = as_bound c.index-starts-place.result in
    elim c.match-bound.branch [
      | in-Some+in_ok-push+in_ok-push-2 w ↦
          let bound = w.in-Some.bound in
          let value = w.in-Some.ensures.value in
          let new : c.match-bound.chosen.items ≡ chosen ++ bound ∷ [] = (λ i. (w.chosen-is i).items) ∙ w.in_ok-push.ensures.items in
          let new_places : c.match-bound.places.items ≡ places ++ place ∷ [] = (λ i. (w.places-is i).items) ∙ w.in_ok-push-2.ensures.items in
          rw (new, new_places)
          (chosen_more events all place chosen places c.loop-place.invariant (there g at) bound (value ∙ sym (here g at)) (subst (NamesEvents events) (sym value) (start g at).named))
      | in_default w ↦
          let empty : c.in_ok-own.own.len ≡ 0 = eqb-true _ _ (sym c.is_empty.ensures ∙ c.if-not-is_empty.false) in
          let none : length c.in_ok-own.own.items ≡ 0 = omega (arith, c.in_ok-own.own.ok.0, empty) in
          let whole : AreCrossed span place [] = subst (λ l. AreCrossed span place l) (nil_from_length c.in_ok-own.own.items none) c.in_ok-own.ensures in
          let new : c.match-bound.chosen.items ≡ chosen = λ i. (w.chosen-is i).items in
          let new_places : c.match-bound.places.items ≡ places = λ i. (w.places-is i).items in
          rw (new, new_places)
          (chosen_left_out events all place chosen places c.loop-place.invariant (there g at)
          (λ time schedule. subst (Meets time) (sym (here g at)) (left_out_met events chosen span (start g at) time schedule place whole (λ is. false≢true (w.in_default.ensures.found.1 is)))))
    ]

pub returns-in-Some-2 : goal.returns-in-Some-2
returns-in-Some-2 g c =
    let events = c.args.events in
    let links = c.in-Some-2.found.links.items in
    let whole : c.args.horizon.now ++ c.deref.result.now ≡ horizon_bounds events ++ c.loop-place.chosen.items = cc
    in
    let cycle = subst (λ l. IsNegativeCycle l links) whole (rw c.in-Some-2.is at c.in_ok-found.ensures.negative) in
    let made = rw (c.deref-in-Some-2.ensures.value, c.deref-in-Some-2-2.ensures.value) at c.in_ok-placed-in-Some-2.ensures in
    subst (λ l. IsNegativeCycle (map as_bound c.args.starts.now) l) (sym made)
    (placed_cycle (map as_bound c.args.starts.now) (horizon_bounds events ++ c.loop-place.chosen.items) c.loop-place.places.items c.loop-place.invariant.placed links cycle)

pub returns : goal.returns
returns g c =
    let events = c.args.events in
    let all = map as_bound c.args.starts.now in
    let whole : c.args.horizon.now ++ c.deref.result.now ≡ horizon_bounds events ++ c.loop-place.chosen.items =
    ap (λ l. l ++ c.deref.result.now) c.requires.horizon ∙ ap (λ l. horizon_bounds events ++ l) c.deref.ensures.value in
    let possible = (rw c.in-None.is at c.in_ok-found.ensures.none).0 refl in
    all_met events all c.loop-place.chosen.items c.loop-place.places.items c.loop-place.place (omega (arith, length-map c.args.starts.now as_bound, c.loop-place-test.false)) c.loop-place.invariant
    (subst HasSchedule whole possible)

pub cycle-requires-clause-base_named : goal.cycle-requires-clause-base_named
cycle-requires-clause-base_named g c = grind (arith, common_steps)

pub cycle-requires-clause-begins : goal.cycle-requires-clause-begins
cycle-requires-clause-begins g c = grind (arith, common_steps)
