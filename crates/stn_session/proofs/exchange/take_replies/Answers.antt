use Rattle.std.proofs.Common.{rules}
use Rattle.stn_session.proofs.Exchanges.{nothing_came}
use Rattle.stn_session.proofs.exchange.take_replies.Goals as goal

pub take_records-requires : goal.take_records-requires
take_records-requires g c = (c.in_ok-take_same.ensures.leads _ _ _ (nothing_came (g.C.SiteCopy.held c.args.copy.now).source (g.C.SiteCopy.held c.args.copy.now).state _ c.args.frames.now c.requires)).0

pub take_text-requires : goal.take_text-requires
take_text-requires g c =
    let one = c.in_ok-take_same.ensures.leads _ _ _ (nothing_came (g.C.SiteCopy.held c.args.copy.now).source (g.C.SiteCopy.held c.args.copy.now).state _ c.args.frames.now c.requires) in
    (c.in_ok-take_records.ensures.leads _ _ one.1).0

pub returns-in_err-take_same-clause-received : goal.returns-in_err-take_same-clause-received
returns-in_err-take_same-clause-received g c = search (rules, nothing_came)

pub returns-in_err-take_records-clause-received : goal.returns-in_err-take_records-clause-received
returns-in_err-take_records-clause-received g c = search (rules, nothing_came)

pub returns-clause-received : goal.returns-clause-received
returns-clause-received g c =
    let one = c.in_ok-take_same.ensures.leads _ _ _ (nothing_came (g.C.SiteCopy.held c.args.copy.now).source (g.C.SiteCopy.held c.args.copy.now).state _ c.args.frames.now c.requires) in
    let two = c.in_ok-take_records.ensures.leads _ _ one.1 in
    c.take_text.ensures.received _ _ _ _ two.1
