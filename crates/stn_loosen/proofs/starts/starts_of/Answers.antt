use Rattle.std.proofs.{Common.{rules, ◌∷◌, ◌++◌, [], ap, ◌∙◌, arith}, lemmas.Grind.common_steps}
use Rattle.stn_loosen.{proofs.StartBounds.{starts_more, starts_reach}}
use Rattle.stn_loosen.proofs.starts.starts_of.Goals as goal

pub loop-bound-preserved : goal.loop-bound-preserved
loop-bound-preserved g c =
    let old = c.loop-bound.starts.items in
    let new = c.push-in-loop-bound.new.self.items in
    let upper = c.moved_sides-upper.result.0 in
    let lower = c.moved_sides-upper.result.1 in
    let is = c.in_ok-push-2.ensures.items ∙ ap (λ l. l ++ lower ∷ []) c.in_ok-push.ensures.items in
    let sides = c.moved_sides-upper.ensures in
    search (rules, starts_more, starts_reach)

pub returns-clause-value : goal.returns-clause-value
returns-clause-value g c = grind (arith, common_steps)
