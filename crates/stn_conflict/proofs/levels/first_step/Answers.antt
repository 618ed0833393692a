use Rattle.std.proofs.{Common.{sym, ◌∙◌}, lemmas.Bool.false≢true}
use Rattle.stn_conflict.{specs.{declared.outgoing.Look.Look, Relaxation.IsRow, Named.IsLevelStep, Search.across}, proofs.Steps.{first_in_row, none_in_row, passed_more}}
use Rattle.stn_conflict.proofs.levels.first_step.Goals as goal

pub returns-then-is_step : goal.returns-then-is_step
returns-then-is_step g c =
    let searched = c.args.graph.now in
    let start = c.args.start in
    let looks = c.row-look-items.result.now in
    let index = c.loop-look.look-index in
    let place = c.from.ensures ∙ c.number.ensures.value in
    let is : IsRow searched c.args.event looks = rw place at c.row-look-items.ensures in
    let look : Look = c.look-item.result in
    let into = c.across-into.ensures in
    let step : IsLevelStep searched.bounds start (across look.link) = rw into at (c.is_step.ensures.0 c.if-is_step.true) in
    rw into (first_in_row searched start c.args.event index looks c.requires.whole is c.loop-look-test.true (sym c.look-item.is) c.loop-look.invariant step)

pub loop-look-preserved : goal.loop-look-preserved
loop-look-preserved g c =
    let searched = c.args.graph.now in
    let into = c.across-into.ensures in
    passed_more c.row-look-items.result.now c.loop-look-test.true (sym c.look-item.is)
    (λ step. false≢true (sym c.if-is_step.false ∙ c.is_step.ensures.1 (rw into step))) c.loop-look.invariant

pub returns : goal.returns
returns g c =
    let searched = c.args.graph.now in
    let looks = c.row-look-items.result.now in
    let place = c.from.ensures ∙ c.number.ensures.value in
    let is : IsRow searched c.args.event looks = rw place at c.row-look-items.ensures in
    none_in_row searched c.args.start c.args.event c.loop-look.look-index looks c.requires.whole is c.loop-look-test.false c.loop-look.invariant
