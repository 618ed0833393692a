use Rattle.std.proofs.{Common.{◌≡◌, [], ◌∷◌, ◌++◌, length, take, refl, ap, sym, subst, ◌∙◌, arith}, lemmas.{List.{length-append, length-take, take-append-le, Elements.All-push}, Grind.common_steps}}
use Rattle.stn_net.specs.{Difference.NamesEvents, Schedule.HasSchedule}
use Rattle.stn_conflict.{specs.{Listing.ListedBounds, Relaxation.IsEnds}, proofs.Narrowing.single_push}
use Rattle.stn_conflict.proofs.windows.Windows.narrow.Goals as goal

pub invariant_of-self-2 : goal.invariant_of-self-2
invariant_of-self-2 g c =
    let is = c.self.inside in
    let old = c.self.invariant in
    let bounds = is.bounds.items in
    let bound = c.args.bound in
    let given = is.given in
    let items : c.push.new.self.items ≡ is.bounds.items ++ c.args.bound ∷ [] = c.in_ok-push.ensures.items in
    let first : take is.given (is.bounds.items ++ c.args.bound ∷ []) ≡ take is.given is.bounds.items = take-append-le given bounds (bound ∷ []) old.within in
    let part : take is.given c.deref.result.now ≡ take is.given is.bounds.items = ap (take given) (c.deref.ensures.value ∙ items) ∙ first in
    let long : length (take is.given is.bounds.items) ≡ is.given = omega (arith, length-take given bounds, old.within) in
    let named : NamesEvents is.events c.args.bound = subst (λ (l : ListedBounds). NamesEvents l.events bound) (sym c.self.view_is) c.requires.named in
    let possible : HasSchedule (is.bounds.items ++ c.args.bound ∷ []) = subst (λ (l : ListedBounds). HasSchedule (l.bounds ++ bound ∷ [])) (sym c.self.view_is) c.requires.possible in
    let onward = old.latest_are.rows_are.first.faced in
    let back = old.earliest_are.rows_are.first.faced in
    let latest = rw (part, long) at c.narrow.ensures in
    let earliest = rw (part, long) at c.narrow-2.ensures in
    rw items (record {
      few = old.few;
      within = omega (arith, old.within, length-append bounds (bound ∷ []));
      network = rw first old.network;
      named = All-push (NamesEvents is.events) bounds bound old.named named;
      single = single_push bounds bound c.requires.single old.single;
      latest_are = rw onward at (latest bounds refl old.single (subst (λ d. IsEnds d is.events is.given is.bounds.items is.latest) (sym onward) old.latest_are) possible);
      earliest_are = rw back at (earliest bounds refl old.single (subst (λ d. IsEnds d is.events is.given is.bounds.items is.earliest) (sym back) old.earliest_are) possible);
    })

pub narrow-requires-2-clause-ends : goal.narrow-requires-2-clause-ends
narrow-requires-2-clause-ends g c = grind (arith, common_steps)

pub narrow-requires-2-clause-network : goal.narrow-requires-2-clause-network
narrow-requires-2-clause-network g c = grind (arith, common_steps)

pub narrow-requires-clause-ends : goal.narrow-requires-clause-ends
narrow-requires-clause-ends g c = grind (arith, common_steps)

pub narrow-requires-clause-network : goal.narrow-requires-clause-network
narrow-requires-clause-network g c = grind (arith, common_steps)
