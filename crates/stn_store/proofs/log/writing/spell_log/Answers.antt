use Rattle.std.proofs.{Common.{subst, ◌∙◌, arith}, lemmas.Grind.common_steps}
use Rattle.stn_lift.specs.PlanSource.{PlanSource}
use Rattle.stn_records.specs.Content.{Content, IsSound}
use Rattle.stn_wire.{specs.Frame.{hello, records, IsFrame}, proofs.States.state_fits}
use Rattle.stn_store.proofs.log.Saved.{HasBase, saved_log}
use Rattle.stn_store.proofs.log.writing.spell_log.Goals as goal

pub say-requires-2 : goal.say-requires-2
say-requires-2 g c = state_fits c.records-records.result.now c.known.ensures.sound

pub returns-clause-loaded : goal.returns-clause-loaded
returns-clause-loaded g c =
    let source = c.source.ensures.source ∙ c.base.ensures in
    let state = c.records-records.ensures.value in
    saved_log
    (subst (λ (s : PlanSource). IsFrame (hello s)) source c.in_ok-say.ensures.sound)
    (subst (λ (s : Content). IsFrame (records s)) state c.in_ok-say-2.ensures.sound)
    (subst HasBase c.base.ensures c.source.ensures.sound.based) c.records-records.ensures.named (subst IsSound state c.known.ensures.sound)

pub say-requires : goal.say-requires
say-requires g c = grind (arith, common_steps)
