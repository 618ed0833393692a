use Rattle.std.proofs.Common.{◌∷◌, Err, subst}
use Rattle.stn_refusal.specs.declared.failure.Failure.{Failure}
use Rattle.stn_text.specs.Lines.{words_of}
use Rattle.stn_exec.{specs.{Saying.IsDone, Script.line_effect}, proofs.Scripts.{done_replied, refused_replied}}
use Rattle.stn_exec.proofs.script.reply_line.Goals as goal

pub returns-in-Ok : goal.returns-in-Ok
returns-in-Ok g c = done_replied c.do_line.new.world c.args.out.now.items c.do_line.new.out.items _ c.in-Ok.ensures

pub returns-in_ok-print-in-Err-Refused : goal.returns-in_ok-print-in-Err-Refused
returns-in_ok-print-in-Err-Refused g c =
    let effect = line_effect c.args.number c.args.world.now (c.args.word.now ∷ words_of c.args.rest.now) in
    refused_replied c.do_line.new.world c.args.out.now.items c.do_line.new.out.items c.print.new.out.items effect c.in-Err-Refused.refusal
    (subst (λ (failure : Failure). IsDone c.do_line.new.world c.args.out.now.items c.do_line.new.out.items effect (Err failure)) c.in-Err-Refused.field-0-is c.in-Err-Refused.ensures)
    c.in_ok-print-in-Err-Refused.ensures.printed
