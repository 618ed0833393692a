use Rattle.std.proofs.Common.{refl, subst}
use Rattle.stn_world.specs.Steps.{merged}
use Rattle.stn_exec.{specs.{declared.answer.Answer.TheVariants.Merged, Command.merge, Effect.CommandEffect, Saying.IsDone}, proofs.Effects.{call_effect, there_effect}}
use Rattle.stn_exec.proofs.script.do_command.Goals as goal

pub returns-in-Merge : goal.returns-in-Merge
returns-in-Merge g c =
    let world = c.args.world.now in
    let site = c.args.command.now.site in
    let other = c.in-Merge.other in
    rw c.in-Merge.is (subst (λ (effect : CommandEffect). IsDone c.merge.new.self c.args.out.now.items c.print_answer-in-Merge.new.out.items effect c.print_answer-in-Merge.result)
    (there_effect world site (merge other) c.in-Some.ensures.there)
    (c.print_answer-in-Merge.ensures c.merge.new.self _ (call_effect world c.merge.new.self (merged site other) Merged c.merge.result c.answered.result _ c.merge.ensures.step c.answered.ensures refl)))
