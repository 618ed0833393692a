use Rattle.std.proofs.lemmas.Result.{err_from_is_err_and}
use Rattle.stn_session.proofs.Exchanges.{next_lost, next_refused, records_answered}
use Rattle.stn_session.proofs.exchange.take_records.Goals as goal

pub returns-in_err-frame-clause-leads : goal.returns-in_err-frame-clause-leads
returns-in_err-frame-clause-leads g c =
    let p = err_from_is_err_and c.from_residual.result c.from_residual.ensures.1 in
    rw (p.1, p.2) (λ first before came. next_lost _ _ _ _ _ c.args.frames.now c.next_reply.new.frames _ came tt c.in_err-frame.field-0.0 c.in_err-frame.ensures.finds)

pub returns-in_err-theirs-clause-leads : goal.returns-in_err-theirs-clause-leads
returns-in_err-theirs-clause-leads g c =
    let p = err_from_is_err_and c.from_residual-in_err-theirs.result c.from_residual-in_err-theirs.ensures.1 in
    rw (p.1, p.2) (λ first before came.
    next_refused _ _ _ _ _ c.args.frames.now c.next_reply.new.frames _ came c.in_ok-frame.frame c.in_ok-frame.ensures.finds c.in_err-theirs.field-0.0
    (c.in_err-theirs.ensures.refused (g.C.SiteCopy.held c.args.copy.now).source (g.C.SiteCopy.held c.args.copy.now).state))

pub returns-clause-leads : goal.returns-clause-leads
returns-clause-leads g c = λ first before came.
    records_answered _ _ _ _ _ c.args.frames.now c.next_reply.new.frames _ came c.in_ok-frame.frame c.in_ok-frame.ensures.finds c.in_ok-theirs.theirs (g.C.SiteCopy.held c.take_in-taken.new.copy).state
    c.in_ok-theirs.ensures.records c.take_in-taken.result c.take_in-taken.ensures.taken c.take_in-taken.ensures.refused c.take_in-taken.ensures.kept
