use Rattle.std.proofs.Common.{refl, inl, inr}
use Rattle.stn_effects.specs.{Effects.{stopped, went}, Printing.device_of}
use Rattle.clap.specs.Words.{kind_of}
use Rattle.stn_shell.specs.Outside.{outside}
use Rattle.stn_store.proofs.Lacks.{passed_on}
use Rattle.stn_shell.proofs.coprocess.reply_to.Goals as goal

pub returns-then-set_log : goal.returns-then-set_log
returns-then-set_log g c =
    λ unread out. went c.set_log.new.line (outside (g.S.Store.entries c.args.store.now) unread out (device_of g.E.Write.contents c.args.err.now)) (((c.in-Ok.read, (c.in-Ok.ensures.taken, c.in-Ok.ensures.found), c.set_log.ensures.own c.if-set_log.true), refl), refl, refl, refl)
    (c.answer_line.ensures unread out)

pub returns-in-Ok : goal.returns-in-Ok
returns-in-Ok g c =
    λ unread out. stopped _ (
      inl (
        inr (c.in-Ok.read, (c.in-Ok.ensures.taken, c.in-Ok.ensures.found), c.set_log.ensures.none c.if-set_log.false, c.tell.ensures),
        c.refused_at.ensures,
      ),
      refl,
      refl,
      refl,
    ) refl

pub returns-in_err-tell_mistake-in-Err-Words : goal.returns-in_err-tell_mistake-in-Err-Words
returns-in_err-tell_mistake-in-Err-Words g c = rw (passed_on _ _ c.from_residual.ensures.1) (λ unread out. stopped _ (inr (refl, c.in_err-tell_mistake-in-Err-Words.ensures.kept), refl, refl, refl) refl)

pub returns-in-Err-Words : goal.returns-in-Err-Words
returns-in-Err-Words g c =
    let refused = rw c.in-Err-Words.field-0-is at c.in-Err-Words.ensures.refused in
    let told = c.in_ok-tell_mistake-in-Err-Words.ensures.told in
    λ unread out. stopped _ (inl (inl (kind_of c.in-Err-Words.error, told.0, refused.1, told.1, told.2), c.refused_at-in-Err-Words.ensures), refl, refl, refl) refl

pub returns : goal.returns
returns g c = λ unread out. stopped _ (inr (refl, refl), refl, refl, refl) refl
