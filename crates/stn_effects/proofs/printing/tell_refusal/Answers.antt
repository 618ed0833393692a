use Rattle.std.proofs.Common.{◌≡◌, ◌++◌, refl, ap, inl, ◌∙◌}
use Rattle.stn_refusal.specs.Printed.{refusal_text}
use Rattle.stn_effects.proofs.printing.tell_refusal.Goals as goal

pub returns-in-Ok-write_whole : goal.returns-in-Ok-write_whole
returns-in-Ok-write_whole g c =
    let text : c.print.new.out.items ≡ refusal_text c.args.refusal = c.in-Ok.ensures.printed ∙ ap (λ empty. empty ++ refusal_text c.args.refusal) c.new-text.ensures.items in
    inl ((rw (c.deref.ensures.value, text) at c.in-Ok-write_whole.ensures.written, c.in-Ok-write_whole.ensures.kept), refl)
