use Rattle.std.proofs.Common.{refl, subst, inl, inr, ⊎_elim}
use Rattle.stn_store.{specs.Store.IsThere, proofs.Lacks.passed_on}
use Rattle.stn_exchanges.proofs.joining.find_said.Goals as goal

pub returns-in_err-said : goal.returns-in_err-said
returns-in_err-said g c =
    let there = subst (IsThere (g.S.Store.entries c.args.store.now) c.args.log.now.name.now) c.if-branch.true c.in_ok-is_there.ensures.found in
    rw (passed_on _ _ c.from_residual-in_err-said.ensures.1) (refl, ⊎_elim (λ unopened. inl (there, unopened)) inr c.in_err-said.ensures.failed)
