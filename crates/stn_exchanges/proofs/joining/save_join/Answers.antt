use Rattle.std.proofs.Common.{refl, inr, ◌∙◌}
use Rattle.stn_effects.specs.Effects.{stopped, went}
use Rattle.stn_exchanges.{specs.Joining.shared, proofs.Joined.saves_as}
use Rattle.stn_store.proofs.Lacks.{passed_on}
use Rattle.stn_exchanges.proofs.joining.save_join.Goals as goal

pub returns-in_err-held : goal.returns-in_err-held
returns-in_err-held g c = rw (passed_on _ _ c.from_residual.ensures.1) (record { saved = stopped _ (stopped _ (refl, inr c.in_err-held.ensures.failed) refl, refl) refl; source = refl; site = refl })

pub take_log-requires : goal.take_log-requires
take_log-requires g c = c.in_ok-held.ensures.named

pub returns-in_err-take_log : goal.returns-in_err-take_log
returns-in_err-take_log g c =
    let is = c.in_err-take_log.ensures in
    rw (passed_on _ _ c.from_residual-in_err-take_log.ensures.1) (record { saved = stopped _ is.taken refl; source = is.source; site = is.site })

pub returns : goal.returns
returns g c =
    let took = c.in_ok-take_log.ensures in
    let saved = saves_as g.S.Store.fails _ c.plan.result.now _ _ c.save.result (c.plan.ensures.source ∙ took.source) c.plan.ensures.state (rw c.in_ok-held.ensures.named at c.save.ensures) in
    record {
      saved = went tt (shared (g.C.SiteCopy.held c.take_log.new.copy).state (g.S.Store.entries c.args.store.now)) took.taken (saved, refl);
      source = took.source;
      site = took.site;
    }
