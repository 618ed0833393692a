use Rattle.std.{proofs.{Common.{◌++◌, ◌∙◌, refl, subst}, lemmas.Result.err_from_is_err_and}, specs.Io.KnownBytes.Appends}
use Rattle.stn_device.specs.Bytes.{AppendsPart}
use Rattle.stn_session.proofs.Sessions.{turn_kept}
use Rattle.stn_session.proofs.session.answer_frame.Goals as goal

pub returns-in_err-turn-clause-answered : goal.returns-in_err-turn-clause-answered
returns-in_err-turn-clause-answered g c =
    let p = err_from_is_err_and c.from_residual.result c.from_residual.ensures.1 in
    rw (p.1, p.2) (λ unheard. (c.in_err-turn.ensures.left, refl, refl))

pub returns-in_err-keep_turn-clause-answered : goal.returns-in_err-keep_turn-clause-answered
returns-in_err-keep_turn-clause-answered g c =
    let p = err_from_is_err_and c.from_residual-in_err-keep_turn.result c.from_residual-in_err-keep_turn.ensures.1 in
    let answered = c.in_ok-turn.ensures.answered in
    let kept = turn_kept (g.K.Keeper.keeps c.args.keeper.now) _ _ _ _ _ _ _ c.in_ok-turn.turn.changed _ (c.plan.ensures.source ∙ c.in_ok-turn.ensures.source) c.plan.ensures.state answered.changed c.in_err-keep_turn.ensures in
    rw (p.1, p.2) (λ unheard. ((answered.left, kept), refl))

pub returns-in_err-write_whole-clause-answered : goal.returns-in_err-write_whole-clause-answered
returns-in_err-write_whole-clause-answered g c =
    let p = err_from_is_err_and c.from_residual-in_err-write_whole.result c.from_residual-in_err-write_whole.ensures.1 in
    let answered = c.in_ok-turn.ensures.answered in
    let broken = c.in_err-write_whole.ensures in
    let printed = c.deref.ensures.value ∙ answered.appended ∙ (λ i. c.new-out.ensures.items i ++ answered.bytes) in
    let kept = turn_kept (g.K.Keeper.keeps c.args.keeper.now) _ _ _ _ _ _ _ c.in_ok-turn.turn.changed _ (c.plan.ensures.source ∙ c.in_ok-turn.ensures.source) c.plan.ensures.state answered.changed c.in_ok-keep_turn.ensures in
    rw (p.1, p.2) (λ unheard. ((answered.left, kept), (answered.bytes, answered.replied, (subst (AppendsPart _ _) printed broken.part, broken.failed))))

pub returns-clause-answered : goal.returns-clause-answered
returns-clause-answered g c =
    let answered = c.in_ok-turn.ensures.answered in
    let written = c.in_ok-write_whole.ensures in
    let printed = c.deref.ensures.value ∙ answered.appended ∙ (λ i. c.new-out.ensures.items i ++ answered.bytes) in
    let kept = turn_kept (g.K.Keeper.keeps c.args.keeper.now) _ _ _ _ _ _ _ c.in_ok-turn.turn.changed _ (c.plan.ensures.source ∙ c.in_ok-turn.ensures.source) c.plan.ensures.state answered.changed c.in_ok-keep_turn.ensures in
    λ unheard. ((answered.left, kept), (answered.bytes, answered.replied, (subst (Appends _ _) printed written.written, written.kept)), answered.greeted, answered.ended)
