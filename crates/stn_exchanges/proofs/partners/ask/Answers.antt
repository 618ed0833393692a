use Rattle.std.proofs.Common.{refl, ap}
use Rattle.stn_device.specs.Partner.{partner_state}
use Rattle.stn_exchanges.proofs.partners.ask.Goals as goal

pub returns : goal.returns
returns g c = λ entries out. (
  c.send_requests.ensures.asked,
  (λ e. ap (λ writer. partner_state g.R.Read.remaining g.W.Write.contents g.W.Finish.ended (record { reader = c.args.partner.now.reader; writer = writer })) (c.send_requests.ensures.unwritten e)),
  refl,
  refl,
  refl,
)
