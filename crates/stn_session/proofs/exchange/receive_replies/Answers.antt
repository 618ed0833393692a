use Rattle.std.proofs.Common.{ap}
use Rattle.stn_session.{proofs.Exchanges.seen_err, specs.{Exchange.seen_value, declared.exchange.ReplyFault.TheVariants.Read}}
use Rattle.stn_session.proofs.exchange.receive_replies.Goals as goal

pub returns-clause-received : goal.returns-clause-received
returns-clause-received g c =
    let taken = c.take_replies.ensures in (
      taken.received,
      (λ e. taken.read (seen_err (λ bytes. bytes.items) c.take_replies.result Read e)),
      (λ other. taken.kept (λ e. other (ap (seen_value (λ bytes. bytes.items)) e))),
    )
