use Rattle.std.proofs.Common.{rules, ◌≡◌, ◌⊎◌, Option, refl, inl, inr, ap}
use Rattle.stn_device.specs.Callers.{CallersState}
use Rattle.stn_effects.specs.{Effects.IsLack, Printing.device_of}
use Rattle.stn_refusal.specs.declared.failure.Failure.{Failure, TheVariants.Failed}
use Rattle.stn_refusal.specs.declared.failure.Fault.TheVariants as fault
use Rattle.stn_exchanges.specs.{Connections.meeting, Joining.shared}
use Rattle.stn_store.proofs.Lacks.{passed_on}
use Rattle.stn_exchanges.proofs.connections.serve_next.Goals as goal

alone : {failure : Failure} → (failure ≡ Failed fault.Net) ⊎ (failure ≡ Failed fault.Memory) → IsLack (λ failed. failed ≡ fault.Net) failure
alone h = search rules

pub returns-in_err-partner : goal.returns-in_err-partner
returns-in_err-partner g c =
    let is = c.in_err-partner.ensures in
    rw (passed_on _ _ c.from_residual.ensures.1) (record {
      served = inr (_, alone is.none, refl, ap (λ (callers : Option CallersState). meeting callers (shared (g.C.SiteCopy.held c.args.copy.now).state (g.S.Store.entries c.args.store.now)) (device_of g.W.Write.contents c.args.out.now)) is.kept);
      source = refl;
      site = refl;
    })

pub returns : goal.returns
returns g c =
    let is = c.serve_partner-served.ensures in
    record {
      served = inl (_, _, _, c.in_ok-partner.ensures.came, c.leave.ensures, is.served);
      source = is.source;
      site = is.site;
    }
