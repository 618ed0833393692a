use Rattle.std.proofs.Common.{◌∷◌, Some, None, subst, ap, ◌∙◌}
use Rattle.stn_refusal.specs.declared.failure.Failure.{Failure}
use Rattle.stn_text.specs.Lines.{words_of}
use Rattle.stn_lift.specs.PlanSource.{events_of}
use Rattle.stn_exec.{specs.{Command.command_of, Running.seen_command, Saying.IsDone, Effect.{CommandEffect, declined}}, proofs.{Effects.refused_done, Scripts.line_effect-is}}
use Rattle.stn_exec.proofs.script.do_line.Goals as goal

pub returns-in-Some : goal.returns-in-Some
returns-in-Some g c =
    let words = c.args.word.now ∷ words_of c.args.rest.now in
    let same = line_effect-is c.args.number c.args.world.now words (Some (seen_command c.in-Some.command))
    (c.in-Some.ensures ∙ ap (λ e. command_of e words) (c.events.ensures.value ∙ ap events_of c.base.ensures)) in
    subst (λ (effect : CommandEffect). IsDone c.do_command.new.world c.args.out.now.items c.do_command.new.out.items effect c.do_command.result) same c.do_command.ensures

pub returns-in-None : goal.returns-in-None
returns-in-None g c =
    let world = c.args.world.now in
    let words = c.args.word.now ∷ words_of c.args.rest.now in
    let same = line_effect-is c.args.number world words None
    (c.in-None.ensures ∙ ap (λ e. command_of e words) (c.events.ensures.value ∙ ap events_of c.base.ensures)) in
    refused_done world c.args.out.now.items _ c.refused_at.result (ap (λ (cause : Failure). record { world = world; reply = declined cause }) c.refused_at.ensures ∙ same)
