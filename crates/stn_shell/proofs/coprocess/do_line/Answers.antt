use Rattle.std.proofs.Common.{Ok, Err, refl, inl, ◌∙◌}
use Rattle.stn_effects.specs.{Effects.{stopped, went}, Printing.device_of}
use Rattle.stn_shell.{specs.Outside.outside, proofs.Turns.skipped_without}
use Rattle.stn_store.proofs.Lacks.{passed_on}
use Rattle.stn_shell.proofs.coprocess.do_line.Goals as goal

pub returns-then-is_none : goal.returns-then-is_none
returns-then-is_none g c =
    let skipped = skipped_without c.opening_word.result c.is_none.result _ c.opening_word.ensures.skipped c.opening_word.ensures.kept c.is_none.ensures ∙ c.if-is_none.true in
    λ unread. rw skipped (refl, refl)

pub returns-in_err-print_answer-in-Ok : goal.returns-in_err-print_answer-in-Ok
returns-in_err-print_answer-in-Ok g c =
    let kept = skipped_without c.opening_word.result c.is_none.result _ c.opening_word.ensures.skipped c.opening_word.ensures.kept c.is_none.ensures ∙ c.if-is_none.false in
    rw (passed_on _ _ c.from_residual.ensures.1) (λ unread. rw kept
    (went (Ok c.in-Ok.answered.items) (outside (g.S.Store.entries c.reply.new.store) unread (device_of g.W.Write.contents c.args.out.now) (device_of g.E.Write.contents c.reply.new.err)) (c.in-Ok.ensures unread (device_of g.W.Write.contents c.args.out.now)) (stopped _ (c.in_err-print_answer-in-Ok.ensures.failed, refl, refl, refl) refl)))

pub returns-in_ok-print_answer-in-Ok : goal.returns-in_ok-print_answer-in-Ok
returns-in_ok-print_answer-in-Ok g c =
    let kept = skipped_without c.opening_word.result c.is_none.result _ c.opening_word.ensures.skipped c.opening_word.ensures.kept c.is_none.ensures ∙ c.if-is_none.false in
    λ unread. rw kept
    (went (Ok c.in-Ok.answered.items) (outside (g.S.Store.entries c.reply.new.store) unread (device_of g.W.Write.contents c.args.out.now) (device_of g.E.Write.contents c.reply.new.err)) (c.in-Ok.ensures unread (device_of g.W.Write.contents c.args.out.now)) (went tt (outside (g.S.Store.entries c.reply.new.store) unread (device_of g.W.Write.contents c.print_answer.new.out) (device_of g.E.Write.contents c.reply.new.err)) (c.in_ok-print_answer-in-Ok.ensures.printed, refl, refl, refl) (refl, refl)))

pub returns-in_err-text_of-in-Err-Refused : goal.returns-in_err-text_of-in-Err-Refused
returns-in_err-text_of-in-Err-Refused g c =
    let kept = skipped_without c.opening_word.result c.is_none.result _ c.opening_word.ensures.skipped c.opening_word.ensures.kept c.is_none.ensures ∙ c.if-is_none.false in
    let undone = rw c.in-Err-Refused.field-0-is at c.in-Err-Refused.ensures in
    rw (passed_on _ _ c.from_residual-in_err-text_of-in-Err-Refused.ensures.1) (λ unread. rw kept
    (went (Err c.in-Err-Refused.refusal) (outside (g.S.Store.entries c.reply.new.store) unread (device_of g.W.Write.contents c.args.out.now) (device_of g.E.Write.contents c.reply.new.err)) (undone unread (device_of g.W.Write.contents c.args.out.now)) (stopped _ (inl (refl, refl), refl, refl, refl) refl)))

pub returns-in_err-print_answer-in-Err-Refused : goal.returns-in_err-print_answer-in-Err-Refused
returns-in_err-print_answer-in-Err-Refused g c =
    let kept = skipped_without c.opening_word.result c.is_none.result _ c.opening_word.ensures.skipped c.opening_word.ensures.kept c.is_none.ensures ∙ c.if-is_none.false in
    let undone = rw c.in-Err-Refused.field-0-is at c.in-Err-Refused.ensures in
    let failed = rw c.in_ok-text_of-in-Err-Refused.ensures at c.in_err-print_answer-in-Err-Refused.ensures.failed in
    rw (passed_on _ _ c.from_residual-in_err-print_answer-in-Err-Refused.ensures.1) (λ unread. rw kept
    (went (Err c.in-Err-Refused.refusal) (outside (g.S.Store.entries c.reply.new.store) unread (device_of g.W.Write.contents c.args.out.now) (device_of g.E.Write.contents c.reply.new.err)) (undone unread (device_of g.W.Write.contents c.args.out.now)) (stopped _ (failed, refl, refl, refl) refl)))

pub returns-in_ok-print_answer-in-Err-Refused : goal.returns-in_ok-print_answer-in-Err-Refused
returns-in_ok-print_answer-in-Err-Refused g c =
    let kept = skipped_without c.opening_word.result c.is_none.result _ c.opening_word.ensures.skipped c.opening_word.ensures.kept c.is_none.ensures ∙ c.if-is_none.false in
    let undone = rw c.in-Err-Refused.field-0-is at c.in-Err-Refused.ensures in
    let printed = rw c.in_ok-text_of-in-Err-Refused.ensures at c.in_ok-print_answer-in-Err-Refused.ensures.printed in
    λ unread. rw kept
    (went (Err c.in-Err-Refused.refusal) (outside (g.S.Store.entries c.reply.new.store) unread (device_of g.W.Write.contents c.args.out.now) (device_of g.E.Write.contents c.reply.new.err)) (undone unread (device_of g.W.Write.contents c.args.out.now)) (went tt (outside (g.S.Store.entries c.reply.new.store) unread (device_of g.W.Write.contents c.print_answer-in-Err-Refused.new.out) (device_of g.E.Write.contents c.reply.new.err)) (printed, refl, refl, refl) (refl, refl)))

pub returns-in-Err-Failed : goal.returns-in-Err-Failed
returns-in-Err-Failed g c =
    let kept = skipped_without c.opening_word.result c.is_none.result _ c.opening_word.ensures.skipped c.opening_word.ensures.kept c.is_none.ensures ∙ c.if-is_none.false in
    let undone = rw c.in-Err-Failed.field-0-is at c.in-Err-Failed.ensures in
    λ unread. rw kept (stopped _ (undone unread (device_of g.W.Write.contents c.args.out.now)) refl)
