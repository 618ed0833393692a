use Rattle.std.proofs.Common.{Err, sym, ap, ◌∙◌, subst}
use Rattle.stn_effects.specs.{Effects.failing, Printing.device_of}
use Rattle.stn_text.specs.Lines.{lines_of}
use Rattle.stn_refusal.specs.declared.failure.Failure.TheVariants.{Refused}
use Rattle.stn_exec.{specs.{Failures.run_failure, Heading.IsHeadingFailure, Runs.PrintsReplies, Script.{Outcome, heading_of}}, proofs.Scripts.{heading-refused, opened_outcome, script_outcome-is}}
use Rattle.stn_exec.proofs.script.run_script.Goals as goal

pub returns-in-Ok : goal.returns-in-Ok
returns-in-Ok g c =
    let script = c.args.script.now in
    let opened = c.in-Ok.ensures.opened in
    let whole = opened_outcome script opened.start c.in-Ok.world c.in-Ok.commands.number (lines_of c.in-Ok.commands.text.now)
    (ap (λ n. heading_of n (lines_of script)) (sym c.number_behind.ensures) ∙ opened.read) opened.opening opened.number opened.lines in
    record {
      run = subst (λ (o : Outcome). PrintsReplies o (device_of g.W.Write.contents c.args.writer.now) (device_of g.W.Write.contents c.run_lines.new.writer)
          (failing run_failure c.run_lines.result)) whole c.run_lines.ensures.run;
    }

pub returns-in-Err-Refused : goal.returns-in-Err-Refused
returns-in-Err-Refused g c =
    let script = c.args.script.now in
    let heading = heading_of c.number_behind.result (lines_of script) in
    let read = heading-refused heading c.in-Err-Refused.refusal (subst (IsHeadingFailure heading) c.in-Err-Refused.field-0-is c.in-Err-Refused.ensures.refused) in
    let whole = script_outcome-is script (Err (Refused c.in-Err-Refused.refusal)) (sym read ∙ ap (λ n. heading_of n (lines_of script)) c.number_behind.ensures) in
    record {
      run = subst (λ (o : Outcome). PrintsReplies o (device_of g.W.Write.contents c.args.writer.now) (device_of g.W.Write.contents c.refuse.new.writer)
          (failing run_failure c.refuse.result)) whole c.refuse.ensures.run;
    }
