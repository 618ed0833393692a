use Rattle.stn_exchanges.proofs.peer.talk_for.Goals as goal

pub returns-clause-limited : goal.returns-clause-limited
returns-clause-limited g c = rw c.in_ok-deadline.ensures.limit at c.talk_until.ensures.limited
