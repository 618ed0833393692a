use Rattle.std.proofs.Common.{map, refl, inl, inr}
use Rattle.stn_effects.specs.{Effects.{stopped, went}, Printing.device_of}
use Rattle.stn_shell.specs.Outside.{outside}
use Rattle.stn_store.proofs.Lacks.{passed_on}
use Rattle.stn_shell.proofs.coprocess.reply.Goals as goal

pub returns-in_err-words : goal.returns-in_err-words
returns-in_err-words g c = rw (passed_on _ _ c.from_residual.ensures.1) (λ unread out. stopped _ (inr (refl, refl), refl, refl, refl) refl)

pub returns-in-Some : goal.returns-in-Some
returns-in-Some g c =
    let words = rw c.in-Some.is at c.in_ok-words.ensures.words in
    let texts = rw c.in-Some.is at c.in_ok-words.ensures.texts in
    λ unread out. went (map (λ word. word.now) c.in-Some.words.items)
    (outside (g.S.Store.entries c.args.store.now) unread out (device_of g.E.Write.contents c.args.err.now)) ((texts, words, refl), refl, refl, refl)
    (rw c.deref.ensures.value at (c.reply_to.ensures unread out))

pub returns-in-None : goal.returns-in-None
returns-in-None g c =
    let none = rw c.in-None.is at c.in_ok-words.ensures.none in
    λ unread out. stopped _ (inl (none refl, c.tell.ensures, c.refused_at.ensures), refl, refl, refl) refl
