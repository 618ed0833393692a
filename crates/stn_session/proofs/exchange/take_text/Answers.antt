use Rattle.std.proofs.lemmas.Result.{err_from_is_err_and}
use Rattle.stn_session.proofs.Exchanges.{next_lost, text_answered}
use Rattle.stn_session.proofs.exchange.take_text.Goals as goal

pub returns-in_err-frame-clause-received : goal.returns-in_err-frame-clause-received
returns-in_err-frame-clause-received g c =
    let p = err_from_is_err_and c.from_residual.result c.from_residual.ensures.1 in
    rw (p.1, p.2) (λ source first before state came. next_lost _ _ _ _ _ c.args.frames.now c.next_reply.new.frames _ came tt c.in_err-frame.field-0.0 c.in_err-frame.ensures.finds)

pub returns-clause-received : goal.returns-clause-received
returns-clause-received g c = λ source first before state came.
    text_answered _ _ _ _ _ c.args.frames.now c.next_reply.new.frames _ came c.in_ok-frame.frame c.in_ok-frame.ensures.finds (λ bytes. bytes.items) c.text_of.result c.text_of.ensures.text c.text_of.ensures.refused
