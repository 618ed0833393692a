use Rattle.std.proofs.lemmas.Result.{err_from_is_err_and}
use Rattle.stn_session.proofs.Exchanges.{next_lost, same_answered}
use Rattle.stn_session.proofs.exchange.take_same.Goals as goal

pub returns-in_err-frame-clause-leads : goal.returns-in_err-frame-clause-leads
returns-in_err-frame-clause-leads g c =
    let p = err_from_is_err_and c.from_residual.result c.from_residual.ensures.1 in
    rw (p.1, p.2) (λ source first before came. next_lost _ _ _ _ _ c.args.frames.now c.next_reply.new.frames _ came tt c.in_err-frame.field-0.0 c.in_err-frame.ensures.finds)

pub returns-clause-leads : goal.returns-clause-leads
returns-clause-leads g c = λ source first before came.
    same_answered _ _ _ _ _ c.args.frames.now c.next_reply.new.frames _ came c.in_ok-frame.frame c.in_ok-frame.ensures.finds c.same_of.result c.same_of.ensures.same c.same_of.ensures.refused
