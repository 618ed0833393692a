use Rattle.std.proofs.{Common.{◌≡◌, ◌++◌, refl, ap, append-nil, ◌∙◌, arith}, lemmas.{Grind.common_steps, Result.err_from_is_err_and}}
use Rattle.stn_effects.specs.Printing.{device_of}
use Rattle.stn_text.specs.Lines.{lines_of, words_of}
use Rattle.stn_exec.{specs.{Failures.run_failure, Script.{Outcome, line_outcome, lines_outcome}}, proofs.Scripts.{lines_outcome-none, lines_outcome-more, line_outcome-counts, texts-more, texts-part, cut_later}}
use Rattle.stn_exec.proofs.script.run_lines.Goals as goal

pub overflow_add-ran : goal.overflow_add-ran
overflow_add-ran g c =
    omega (arith, c.in_ok-more.ensures.run.1, (line_outcome-counts c.loop-rest.at c.loop-rest.world (words_of c.first_line.result.0.now) _ c.in_ok-more.ensures.run.2).0, c.loop-rest.invariant.within, c.requires)

pub overflow_add-ran-in-loop-rest : goal.overflow_add-ran-in-loop-rest
overflow_add-ran-in-loop-rest g c =
    omega (arith, (line_outcome-counts c.loop-rest.at c.loop-rest.world (words_of c.first_line.result.0.now) _ c.in_ok-more.ensures.run.2).1, c.loop-rest.invariant.within, c.requires)

pub returns-in_err-more : goal.returns-in_err-more
returns-in_err-more g c =
    let p = err_from_is_err_and c.from_residual.result c.from_residual.ensures.1 in
    let l = c.loop-rest in
    let first = line_outcome l.at l.world (words_of c.first_line.result.0.now) in
    let more = lines_outcome-more l.at l.world first.world l.rest.now c.first_line.result.0.now c.first_line.result.1.now c.first_line.ensures.lines refl in
    rw (p.1, p.2) (record {
      run = (
        texts-part _ _ _ _ _ _ _ _ l.invariant.text.1 c.in_err-more.ensures.run.0 l.invariant.text.2 (ap (λ (o : Outcome). o.replies) more),
        cut_later (device_of g.W.Write.contents c.args.writer.now) (device_of g.W.Write.contents l.writer) (device_of g.W.Write.contents c.run_line.new.writer)
            (run_failure c.in_err-more.field-0.0) l.invariant.kept c.in_err-more.ensures.run.1,
      );
    })

pub loop-rest-preserved : goal.loop-rest-preserved
loop-rest-preserved g c =
    let l = c.loop-rest in
    let more = lines_outcome-more l.at l.world c.run_line.new.world l.rest.now c.first_line.result.0.now c.first_line.result.1.now c.first_line.ensures.lines c.in_ok-more.ensures.world in
    let run = c.in_ok-more.ensures.run in
    let counts = line_outcome-counts l.at l.world (words_of c.first_line.result.0.now) _ run.2 in
    record {
      text = texts-more _ _ _ _ _ _ _ _ l.invariant.text.1 run.0 l.invariant.text.2 (ap (λ (o : Outcome). o.replies) more) _ _ l.invariant.text.3 run.2;
      commands = omega (arith, l.invariant.commands, run.1, ap (λ (o : Outcome). o.commands) more);
      kept = run.3 ∙ l.invariant.kept;
      within = omega (arith, l.invariant.within, c.first_line.ensures.shorter);
      few_commands = omega (arith, l.invariant.few_commands, run.1, counts.0);
      few_refused = omega (arith, l.invariant.few_refused, counts.1);
    }

pub returns : goal.returns
returns g c =
    let l = c.loop-rest in
    let none = lines_outcome-none l.at l.world l.rest.now (grind (arith, common_steps)) in
    let no_commands : (lines_outcome l.at l.world (lines_of l.rest.now)).commands ≡ 0 = ap (λ (o : Outcome). o.commands) none in
    let all = l.invariant.text.2 ∙ (ap (λ (o : Outcome). l.invariant.text.0 ++ o.replies) none ∙ append-nil l.invariant.text.0) in
    record {
      run = (
        rw all l.invariant.text.1,
        omega (arith, l.invariant.commands, no_commands),
        rw all l.invariant.text.3,
        l.invariant.kept,
      );
    }
