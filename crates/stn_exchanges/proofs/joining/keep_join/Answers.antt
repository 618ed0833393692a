use Rattle.std.proofs.Common.{Some, None, refl, inr, ◌∙◌}
use Rattle.stn_store.proofs.Lacks.{passed_on}
use Rattle.stn_effects.specs.Effects.{stopped, went}
use Rattle.stn_exchanges.proofs.Joined.{joined, not_joined, saves_as}
use Rattle.stn_exchanges.proofs.joining.keep_join.Goals as goal

pub returns-in_err-lock : goal.returns-in_err-lock
returns-in_err-lock g c = rw (passed_on _ _ c.from_residual.ensures.1) (stopped _ (refl, inr c.in_err-lock.ensures.failed) refl)

pub find_said-requires : goal.find_said-requires
find_said-requires g c = c.in_ok-lock.ensures.named

pub returns-in_err-said : goal.returns-in_err-said
returns-in_err-said g c = rw (passed_on _ _ c.from_residual-in_err-said.ensures.1) (stopped _ c.in_err-said.ensures refl)

pub returns-in_err-take_in-in-Some : goal.returns-in_err-take_in-in-Some
returns-in_err-take_in-in-Some g c =
    let found = rw c.in-Some.is at c.in_ok-said.ensures in
    rw (passed_on _ _ c.from_residual-in_err-take_in-in-Some.ensures.1) (went (Some c.in-Some.said) _ found (stopped _ (not_joined g.S.Store.fails c.in-Some.said c.args.plan.now c.in-Some.said _ c.in_err-take_in-in-Some.ensures.refused) refl))

pub returns-in-Some : goal.returns-in-Some
returns-in-Some g c =
    let found = rw c.in-Some.is at c.in_ok-said.ensures in
    let is = c.in_ok-take_in-in-Some.ensures in
    let said = c.in-Some.said in
    let new = c.take_in.new.copy in
    went (Some said) _ found (went new.state _ (joined g.S.Store.fails said c.args.plan.now new _ is.same is.left is.accepted)
    (saves_as g.S.Store.fails _ new _ _ c.save.result (is.left.source ∙ is.same) refl (rw c.in_ok-lock.ensures.named at c.save.ensures)))

pub returns : goal.returns
returns g c =
    let found = rw c.in-None.is at c.in_ok-said.ensures in
    went None _ found (went c.args.plan.now.state _ (refl, refl) (rw c.in_ok-lock.ensures.named at c.save-in-None.ensures))
