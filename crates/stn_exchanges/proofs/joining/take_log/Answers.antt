use Rattle.std.proofs.Common.{None, refl}
use Rattle.stn_effects.specs.Effects.{stopped, went}
use Rattle.stn_site.specs.Calls.{took}
use Rattle.stn_exchanges.proofs.Joined.{took_log, source_stays, site_stays, held_stays, state_stays}
use Rattle.stn_store.proofs.Lacks.{passed_on}
use Rattle.stn_exchanges.proofs.joining.take_log.Goals as goal

pub returns-in_err-said : goal.returns-in_err-said
returns-in_err-said g c = rw (passed_on _ _ c.from_residual.ensures.1) (record { taken = (stopped _ c.in_err-said.ensures refl, refl); source = refl; site = refl })

pub returns-in-Some : goal.returns-in-Some
returns-in-Some g c =
    let held = g.C.SiteCopy.held in
    let old = held c.args.copy.now in
    let new = held c.take_in-taken.new.copy in
    let is = c.take_in-taken.ensures in
    let kept = held_stays held c.take_in-taken.result c.args.copy.now c.take_in-taken.new.copy is.kept in
    let found = rw c.in-Some.is at c.in_ok-said.ensures in
    record {
      taken = took_log g.S.Store.fails old c.in-Some.said new _ c.args.log.now c.take_in-taken.result found is.same is.left is.accepted is.refused (state_stays c.take_in-taken.result old new kept);
      source = source_stays c.take_in-taken.result (took c.in-Some.said.state) old new is.left kept;
      site = site_stays c.take_in-taken.result (took c.in-Some.said.state) old new is.left kept;
    }

pub returns-in-None : goal.returns-in-None
returns-in-None g c =
    let found = rw c.in-None.is at c.in_ok-said.ensures in
    record { taken = went None _ found (refl, refl); source = refl; site = refl }
