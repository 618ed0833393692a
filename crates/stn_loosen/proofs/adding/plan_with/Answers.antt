use Rattle.std.proofs.{lemmas.{Grind.common_steps, List.{take_more, take_all}}, Common.{rules, ◌≡◌, ◌+◌, [], ◌∷◌, ◌++◌, take, refl, subst, ◌∙◌, arith}}
use Rattle.stn_records.specs.Content.{next_counter, with_record}
use Rattle.stn_site.specs.Held.{plain}
use Rattle.stn_loosen.{specs.Numbered.HoldsNumbered, proofs.NumberedStates.{next_passes, holds_none, holds_more, all_are}}
use Rattle.stn_loosen.proofs.adding.plan_with.Goals as goal

pub loop-bound-init : goal.loop-bound-init
loop-bound-init g c = record {
  site = c.in_ok-plan.ensures.site;
  source = c.in_ok-plan.ensures.source ∙ rw c.steps.ensures.value refl;
  holds = holds_none c.args.site c.in_ok-plan.plan.state c.in_ok-plan.ensures.empty;
}

pub add_bound-requires-clause-room : goal.add_bound-requires-clause-room
add_bound-requires-clause-room g c = search (rules, next_passes)

pub loop-bound-preserved : goal.loop-bound-preserved
loop-bound-preserved g c =
    let site = c.args.site in
    let old = c.loop-bound.plan in
    let new = c.add_bound.new.plan in
    let place = c.loop-bound.bound-index in
    let bound = c.bound-item.result in
    let bounds = c.args.bounds.now in
    let was : old.site ≡ site = c.loop-bound.invariant.site in
    let more : take (place + 1) bounds ≡ take place bounds ++ bound ∷ [] = cc (take_more bounds place bound c.loop-bound-test.true)
    in
    let made : new.state ≡ with_record old.state (record { site = site; counter = next_counter old.state site }) (plain bound) = search rules
    in
    search (rules, holds_more)

pub returns : goal.returns
returns g c =
    let is = c.loop-bound.invariant in
    let plan = c.loop-bound.plan in
    let bounds = c.args.bounds.now in
    let whole : take c.loop-bound.bound-index bounds ≡ bounds = take_all c.loop-bound.bound-index bounds (omega (arith, c.loop-bound-test.false)) in
    let holds : HoldsNumbered c.args.site bounds plan.state = subst (λ l. HoldsNumbered c.args.site l plan.state) whole is.holds in
    grind (arith, common_steps, all_are)
