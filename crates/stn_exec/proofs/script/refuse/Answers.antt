use Rattle.std.proofs.{Common.{◌≡◌, ◌++◌, ◌∙◌, ap, inl, inr, refl, subst}, lemmas.Result.err_from_is_err_and}
use Rattle.stn_device.specs.{Bytes.AppendsPart, Counted.counted_device}
use Rattle.stn_refusal.specs.{declared.failure.Failure.TheVariants.Refused, Printed.refusal_text}
use Rattle.stn_exec.{specs.Effect.declined, proofs.Scripts.{part-one}}
use Rattle.stn_exec.proofs.script.refuse.Goals as goal

pub returns-in_err-write_whole : goal.returns-in_err-write_whole
returns-in_err-write_whole g c =
    let p = err_from_is_err_and c.from_residual-in_err-write_whole.result c.from_residual-in_err-write_whole.ensures.1 in
    let before = g.W.Write.contents (counted_device c.args.writer.now) in
    let after = g.W.Write.contents (counted_device c.write_whole.new.writer) in
    let printed : c.deref.result.now ≡ refusal_text c.args.refusal = c.deref.ensures.value ∙ c.in_ok-print.ensures.printed ∙ ap (λ items. items ++ refusal_text c.args.refusal) c.new-out.ensures.items in
    rw (p.1, p.2) (record {
      run = (
        part-one before after (declined (Refused c.args.refusal)) (refusal_text c.args.refusal) (inr (c.args.refusal, refl, refl)) (subst (AppendsPart before after) printed c.in_err-write_whole.ensures.part),
        inl (refl, c.in_err-write_whole.ensures.failed),
      );
    })
