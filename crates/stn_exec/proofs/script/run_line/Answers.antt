use Rattle.std.{proofs.{Common.{rules, ◌≡◌, ◌∷◌, ◌++◌, ℕ, List, cond, inl, refl, sym, ap, ◌∙◌, subst, arith}, lemmas.{Grind.common_steps, Result.err_from_is_err_and}}, specs.Io.KnownBytes.Appends}
use Rattle.stn_device.specs.{Bytes.AppendsPart, Counted.counted_device}
use Rattle.stn_text.specs.Lines.{words_of}
use Rattle.stn_exec.{specs.{Output.{CountsRefusals, WritesOutput, WritesOutputPart}, Script.{Outcome, effect_outcome, line_effect, line_outcome}}, proofs.{Outputs.{count_none, count_one}, Scripts.{line_outcome-skipped, line_outcome-run, output_one, part-one}}}
use Rattle.stn_exec.proofs.script.run_line.Goals as goal

pub returns-in_err-write_whole-in-Some-clause-run : goal.returns-in_err-write_whole-in-Some-clause-run
returns-in_err-write_whole-in-Some-clause-run g c =
    let p = err_from_is_err_and c.from_residual-in_err-write_whole-in-Some.result c.from_residual-in_err-write_whole-in-Some.ensures.1 in
    let words = words_of c.args.line.now in
    let before = g.W.Write.contents (counted_device c.args.writer.now) in
    let after = g.W.Write.contents (counted_device c.write_whole.new.writer) in
    let replied = c.in_ok-refused-in-Some.ensures in
    let cut : line_outcome c.args.number c.args.world.now words ≡ effect_outcome (line_effect c.args.number c.args.world.now (c.in-Some.word.now ∷ words_of c.in-Some.rest.now)) =
    line_outcome-run c.args.number c.args.world.now words c.in-Some.ensures.kept ∙ ap (λ (w : List (List ℕ)). effect_outcome (line_effect c.args.number c.args.world.now w)) c.in-Some.ensures.cut in
    let printed : c.deref.result.now ≡ replied.text = c.deref.ensures.value ∙ replied.appended ∙ ap (λ items. items ++ replied.text) c.new-out.ensures.items in
    rw (p.1, p.2) (
      subst (λ (o : Outcome). WritesOutputPart before after o.replies) (sym cut) (part-one before after _ replied.text replied.printed (subst (AppendsPart before after) printed c.in_err-write_whole-in-Some.ensures.part)),
      inl (refl, c.in_err-write_whole-in-Some.ensures.failed),
    )

pub returns-in_ok-write_whole-in-Some-clause-run : goal.returns-in_ok-write_whole-in-Some-clause-run
returns-in_ok-write_whole-in-Some-clause-run g c =
    let words = words_of c.args.line.now in
    let before = g.W.Write.contents (counted_device c.args.writer.now) in
    let after = g.W.Write.contents (counted_device c.write_whole.new.writer) in
    let replied = c.in_ok-refused-in-Some.ensures in
    let effect = line_effect c.args.number c.args.world.now (c.in-Some.word.now ∷ words_of c.in-Some.rest.now) in
    let cut : line_outcome c.args.number c.args.world.now words ≡ effect_outcome effect =
    line_outcome-run c.args.number c.args.world.now words c.in-Some.ensures.kept ∙ ap (λ (w : List (List ℕ)). effect_outcome (line_effect c.args.number c.args.world.now w)) c.in-Some.ensures.cut in
    let printed : c.deref.result.now ≡ replied.text = c.deref.ensures.value ∙ replied.appended ∙ ap (λ items. items ++ replied.text) c.new-out.ensures.items in
    let counted : c.from.result ≡ cond c.in_ok-refused-in-Some.refused 1 0 = grind (arith, common_steps) in (
      subst (λ (o : Outcome). WritesOutput before after o.replies) (sym cut)
          (replied.text, output_one effect.reply replied.text replied.printed, subst (Appends before after) printed c.in_ok-write_whole-in-Some.ensures.written),
      sym (ap (λ (o : Outcome). o.commands) cut),
      subst (λ (o : Outcome). CountsRefusals o.replies c.from.result) (sym cut) (count_one effect.reply c.in_ok-refused-in-Some.refused c.from.result counted replied.answered),
      c.in_ok-write_whole-in-Some.ensures.kept,
    )

pub returns-in_ok-write_whole-in-Some-clause-world : goal.returns-in_ok-write_whole-in-Some-clause-world
returns-in_ok-write_whole-in-Some-clause-world g c = search (rules, line_outcome-run)

pub returns-in-None-clause-run : goal.returns-in-None-clause-run
returns-in-None-clause-run g c = search (rules, line_outcome-skipped, count_none)

pub returns-in-None-clause-world : goal.returns-in-None-clause-world
returns-in-None-clause-world g c = search (rules, line_outcome-skipped)
