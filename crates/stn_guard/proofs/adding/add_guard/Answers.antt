use Rattle.std.proofs.{Common.{◌≡◌, inl, inr, ⊎_elim, true, List, Err, length, sym, ap, subst, ◌∙◌, rules}, lemmas.Option.MatchOption-at_some}
use Rattle.stn_net.specs.{Difference.Difference, Schedule.HasSchedule}
use Rattle.stn_lift.specs.PlanSource.{steps_of}
use Rattle.stn_site.specs.{Bounds.all_bounds, Own.are_within}
use Rattle.stn_guard.{specs.{Guard.Guards, Adding.{owner_by, records_refusal, guarded}, Putting.MakesGuard}, proofs.{Put.added_guards, SiteGuard.cause_or_memory, adding.add_guard.{Given.Over, Goals.In-Some}}}
use Rattle.stn_guard.proofs.adding.add_guard.Goals as goal

made : (g : Over) (c : In-Some g) → MakesGuard c.args.owned.now c.args.plan.now c.in-Some.bounds.items
made g c =
    let held = c.args.plan.now in
    MatchOption-at_some (¬ HasSchedule (all_bounds held.source held.state)) (λ b. MakesGuard c.args.owned.now held b.items) c.in-Some.bounds c.in-Some.is c.in-Ok.ensures

within : (g : Over) (c : In-Some g) → are_within (steps_of c.args.plan.now.source) c.args.owned.now ≡ true
within g c = cc

pub add_each-requires : goal.add_each-requires
add_each-requires g c = rw c.deref.ensures.value (made g (goal.at.add_each-requires g c).In-Some).named

pub returns-in_err-add_each-in-Some-clause-fault : goal.returns-in_err-add_each-in-Some-clause-fault
returns-in_err-add_each-in-Some-clause-fault g c =
    let at = (goal.at.returns-in_err-add_each-in-Some-clause-fault g c).In-Some in
    let held = c.args.plan.now in
    let guard = made g at in
    let is : c.from_residual.result ≡ Err c.in_err-add_each-in-Some.field-0.0 = search rules in
    rw is (⊎_elim inl
    (λ cause. inr (guarded (within g at) guard.possible c.in-Some.bounds.items guard.is_guard (cause ∙ ap (λ (l : List Difference). records_refusal held (length l)) c.deref.ensures.value)))
    (cause_or_memory c.in_err-add_each-in-Some.ensures.fault))

pub returns-in_ok-add_each-in-Some-clause-adds : goal.returns-in_ok-add_each-in-Some-clause-adds
returns-in_ok-add_each-in-Some-clause-adds g c =
    let guard = made g (goal.at.returns-in_ok-add_each-in-Some-clause-adds g c).In-Some in
    record { possible = guard.possible; guard = c.in-Some.bounds.items; is_guard = guard.is_guard; adds = rw c.deref.ensures.value at c.in_ok-add_each-in-Some.ensures.adds }

pub returns-in_ok-add_each-in-Some-clause-guarded : goal.returns-in_ok-add_each-in-Some-clause-guarded
returns-in_ok-add_each-in-Some-clause-guarded g c =
    let held = c.args.plan.now in
    let owner = owner_by held.site c.args.owned.now in
    let guard = made g (goal.at.returns-in_ok-add_each-in-Some-clause-guarded g c).In-Some in
    added_guards owner held c.add_each.new.plan c.deref.result.now c.in_ok-add_each-in-Some.field-0.items c.in_ok-add_each-in-Some.ensures.adds
    (subst (Guards owner (all_bounds held.source held.state)) (sym c.deref.ensures.value) guard.guards)

pub returns-in_ok-add_each-in-Some-clause-accepted : goal.returns-in_ok-add_each-in-Some-clause-accepted
returns-in_ok-add_each-in-Some-clause-accepted g c =
    let at = (goal.at.returns-in_ok-add_each-in-Some-clause-accepted g c).In-Some in
    let guard = made g at in
    guarded (within g at) guard.possible c.in-Some.bounds.items guard.is_guard
    (sym c.in_ok-add_each-in-Some.ensures.accepted ∙ ap (λ (l : List Difference). records_refusal c.args.plan.now (length l)) c.deref.ensures.value)
